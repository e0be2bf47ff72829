-- `runs::total` adds up the 64 sizes. The invariant: the sum so far is that of the numbers below d, each below 2 ^ 32. Assumes nothing.
use Prim.Native.Nat.{◌*◌, ◌≤◌}
use mathlib.Core.Path.{◌≡◌}
use Rattle.districts.specs.Counts.{sum_to}
use Rattle.districts.specs.Lists.{size}
use Rattle.districts.proofs.runs.total.Given as goal

abbrev pub invariant-loop-d : goal.invariant-loop-d
invariant-loop-d l = (l.sum ≡ sum_to l.d (size l.list)) × (l.sum ≤ l.d * 4294967295)
