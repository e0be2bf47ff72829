-- `Packing::all_joined` asks one number after the other. The invariant: the test so far is that of the numbers below d, and `seen` is what they have together. Assumes nothing.
use mathlib.Core.Path.{◌≡◌}
use Rattle.districts.specs.Counts.{all_to, sum_to}
use Rattle.districts.specs.Lists.{size}
use Rattle.districts.specs.Places.{joined}
use Rattle.districts.proofs.packing.Packing.all_joined.Given as goal

abbrev pub invariant-loop-d : goal.invariant-loop-d
invariant-loop-d l = (l.good ≡ all_to l.d (joined l.self.runs.list.now l.starts l.self.all)) × (l.seen ≡ sum_to l.d (size l.self.runs.list.now))
