-- `areas::locate_on` passes one ring after the other. The invariant: what is known of the area when k rings of it were passed (`Past`). Assumes nothing.
use Rattle.areas.proofs.Past.{Past}
use Rattle.areas.proofs.locate_on.Given as goal

abbrev pub invariant-loop-k : goal.invariant-loop-k
invariant-loop-k l = Past l.xs l.ys l.sizes l.r l.about l.at l.k
