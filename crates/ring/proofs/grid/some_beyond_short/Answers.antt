-- `ring::grid::some_beyond_short` goes by fours. The invariant: no number before i is beyond the grid, and i is at most four past the last four's place. Assumes nothing.
use native.Mathlib.Omega.{arith}
use mathlib.Core.Path.{sym, ◌∙◌}
use Rattle.ring.proofs.Within.{four-more, four-found, four-all}
use Rattle.ring.proofs.grid.some_beyond_short.Goals as goal

pub returns-then-four_beyond : goal.returns-then-four_beyond
returns-then-four_beyond c =
    sym (four-found c.args.list.now c.loop-i.i (sym c.four_beyond.ensures ∙ c.if-four_beyond.true))

pub loop-i-preserved : goal.loop-i-preserved
loop-i-preserved c =
    (omega (arith, c.loop-i-test.true), four-more c.args.list.now c.loop-i.i c.loop-i.invariant.1 (sym c.four_beyond.ensures ∙ c.if-four_beyond.false))

pub returns : goal.returns
returns c =
    let xs = c.args.list.now in
    c.four_beyond-2.ensures ∙ four-all xs c.loop-i.i _ (omega (arith, c.requires)) c.loop-i-test.false c.loop-i.invariant.1
