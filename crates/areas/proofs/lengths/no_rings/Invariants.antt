-- `areas::lengths::no_rings` counts down the points. The invariant: the points left and the lengths left decide (`Left`). Assumes nothing.
use Rattle.areas.proofs.Used.{Left}
use Rattle.areas.proofs.lengths.no_rings.Given as goal

abbrev pub invariant-loop-length : goal.invariant-loop-length
invariant-loop-length l = Left l.points l.lengths l.left l.length-index
