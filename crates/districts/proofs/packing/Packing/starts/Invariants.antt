-- `Packing::starts` marks one number after the other. The invariant: the numbers below d are marked, and `seen` is what they have together. Assumes nothing.
use mathlib.Core.Path.{◌≡◌}
use Rattle.districts.specs.Counts.{sum_to}
use Rattle.districts.specs.Lists.{size}
use Rattle.districts.specs.Places.{Marked}
use Rattle.districts.proofs.packing.Packing.starts.Given as goal

abbrev pub invariant-loop-d : goal.invariant-loop-d
invariant-loop-d l = Marked l.self.runs.list.now l.d l.starts × (l.seen ≡ sum_to l.d (size l.self.runs.list.now))
