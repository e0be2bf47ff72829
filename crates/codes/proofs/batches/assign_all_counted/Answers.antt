-- `codes::batches::assign_all_counted` counts all answers, unless all of it is refused. Assumes nothing.
use Prim.Native.Nat.{◌/◌}
use mathlib.Core.Path.{sym}
use lib.ListN.{length, drop}
use borrow.Author.Rules.{rules}
use Rattle.districts.specs.Held.{lists_of}
use Rattle.codes.specs.Counts.{tally_of}
use Rattle.codes.specs.Batches.{answers_to, counted_to, answer_in}
use Rattle.codes.proofs.Batched.{batch-room, left-again}
use Rattle.codes.proofs.batches.assign_all_counted.Goals as goal

pub count_all-requires : goal.count_all-requires
count_all-requires c =
    let room = batch-room (lists_of c.args.lists.now) c.args.points.now (length c.args.answers.now) (sym c.in_ok-assign_all.ensures.judged) in
    search (rules, room)

pub returns-clause-answered : goal.returns-clause-answered
returns-clause-answered c =
    let before = c.args.answers.now in
    let f = answer_in (lists_of c.args.lists.now) c.args.points.now in
    let n = length c.args.points.now / 2 in
    let done = c.count_all.ensures f (drop (length (answers_to f n)) before) c.in_ok-assign_all.ensures.answered in
    left-again f (counted_to (tally_of c.args.counts.now) f) n before _ done.0
