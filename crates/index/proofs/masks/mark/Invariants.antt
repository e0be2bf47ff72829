-- `index::masks::mark`: the bands that it has come to have the bit, and all bits that were there are. Assumes nothing.
use Rattle.index.proofs.Marking.{Wider}
use Rattle.index.proofs.masks.mark.Given as goal

abbrev pub invariant-loop-mask : goal.invariant-loop-mask
invariant-loop-mask l = Wider l.initial.mask-items l.d l.mask-index l.mask-items
