-- `ring::locate_long` refuses in the rules' order and otherwise answers what the walk round the ring finds. Assumes nothing.
use mathlib.Core.Path.{◌≡◌, sym, ◌∙◌}
use mathlib.Core.Bool.{◌||◌}
use borrow.Author.Rules.{rules}
use Rattle.ring.proofs.Asked.{beyond_of, tested-beyond, located-no-ring, located-beyond, asked}
use Rattle.ring.proofs.locate_long.Goals as goal

pub returns-then-no_ring : goal.returns-then-no_ring
returns-then-no_ring c =
    let a = c.args in
    located-no-ring a.ring.now a.r.x a.r.y (sym c.no_ring.ensures ∙ c.if-no_ring.true)

pub returns-then-some_beyond-beyond : goal.returns-then-some_beyond-beyond
returns-then-some_beyond-beyond c =
    let list = c.args.ring.now in
    let r = c.args.r in
    let tested : beyond_of list r.x r.y ≡ (c.some_beyond.result || (c.beyond.result || c.beyond-2.result)) = tested-beyond list r.x r.y (search rules) (search rules) c.some_beyond.ensures c.beyond.ensures c.beyond-2.ensures in
    located-beyond list r.x r.y (sym c.no_ring.ensures ∙ c.if-no_ring.false) (tested ∙ c.if-some_beyond-beyond.true)

pub invariant_of-locate_on : goal.invariant_of-locate_on
invariant_of-locate_on c =
    let list = c.args.ring.now in
    let r = c.args.r in
    let tested : beyond_of list r.x r.y ≡ (c.some_beyond.result || (c.beyond.result || c.beyond-2.result)) = tested-beyond list r.x r.y (search rules) (search rules) c.some_beyond.ensures c.beyond.ensures c.beyond-2.ensures in
    record { ring = (asked list r.x r.y (sym c.no_ring.ensures ∙ c.if-no_ring.false) (tested ∙ c.if-some_beyond-beyond.false)).ring }

pub returns : goal.returns
returns c =
    let list = c.args.ring.now in
    let r = c.args.r in
    let tested : beyond_of list r.x r.y ≡ (c.some_beyond.result || (c.beyond.result || c.beyond-2.result)) = tested-beyond list r.x r.y (search rules) (search rules) c.some_beyond.ensures c.beyond.ensures c.beyond-2.ensures in
    c.locate_on.ensures ∙ (asked list r.x r.y (sym c.no_ring.ensures ∙ c.if-no_ring.false) (tested ∙ c.if-some_beyond-beyond.false)).accepted
