-- `index::bounds::Bounds::of`: the bounds of the numbers so far. Assumes nothing.
use lib.Signed.{le_z}
use Rattle.index.proofs.Order.{ge_z, BoundsTo}
use Rattle.index.proofs.bounds.Bounds.of.Given as goal

abbrev pub invariant-loop-v : goal.invariant-loop-v
invariant-loop-v l = BoundsTo le_z l.column l.v-index l.low × BoundsTo ge_z l.column l.v-index l.high
