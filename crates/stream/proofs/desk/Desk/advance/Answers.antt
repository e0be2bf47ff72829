-- `stream::Desk::advance` meets its contract: each arm makes the call that was decoded. Assumes nothing.
use borrow.Author.Rules.{rules}
use Rattle.std.proofs.Common.{refl}
use Rattle.stream.specs.Replies.{tallied_by}
use Rattle.stream.proofs.Taking.{advanced, outline-fits, path-fits, outline-of, split_of}
use Rattle.stream.proofs.desk.Desk.advance.Goals as goal

pub slice_bounds-outline-end : goal.slice_bounds-outline-end
slice_bounds-outline-end c =
    let fits = outline-fits c.args.bytes.now _ _ c.in-Some.is _ _ c.in_ok-decoded.ensures _ c.in-Outline.is in
    search (rules, fits)

pub slice_bounds-split-end : goal.slice_bounds-split-end
slice_bounds-split-end c =
    let fits = path-fits c.args.bytes.now _ _ c.in-Some.is _ _ c.in_ok-decoded.ensures _ _ c.in-Split.is in
    search (rules, fits)

pub returns-in-Outline-clause-advanced : goal.returns-in-Outline-clause-advanced
unfolding tallied_by
returns-in-Outline-clause-advanced c =
    let called = c.outline.ensures in
    advanced c.args.bytes.now _ _ c.in-Some.is _ _ c.in_ok-decoded.ensures _ c.in-Outline.is _ _ (outline-of _ c.in-Some.decoded.taken _) _ refl _ _ _ _ refl (called.changed.answer _) called.tally called.changed.left

pub returns-in-Split-clause-advanced : goal.returns-in-Split-clause-advanced
unfolding tallied_by
returns-in-Split-clause-advanced c =
    let called = c.split.ensures in
    advanced c.args.bytes.now _ _ c.in-Some.is _ _ c.in_ok-decoded.ensures _ c.in-Split.is _ _ (split_of _ _ c.in-Some.decoded.taken _) _ refl _ _ _ _ refl (called.changed.answer _) called.tally called.changed.left

pub returns-in-Merge-clause-advanced : goal.returns-in-Merge-clause-advanced
unfolding tallied_by
returns-in-Merge-clause-advanced c =
    let called = c.merge.ensures in
    advanced c.args.bytes.now _ _ c.in-Some.is _ _ c.in_ok-decoded.ensures _ c.in-Merge.is _ _ refl _ refl _ _ _ _ refl (called.changed.answer _) called.tally called.changed.left
