-- `districts::on_grid` asks both numbers at one place after the other. The invariant: the first i of both columns were asked. Assumes nothing.
use mathlib.Core.Path.{◌≡◌}
use Rattle.districts.specs.WellFormed.{within}
use Rattle.districts.proofs.on_grid.Given as goal

abbrev pub invariant-loop-i : goal.invariant-loop-i
invariant-loop-i l = l.good ≡ within l.xs l.ys l.i
