-- `Runs::all_allowed` asks of each number in turn. The invariant: the test so far is that of the numbers below d. Assumes nothing.
use mathlib.Core.Path.{◌≡◌}
use Rattle.districts.specs.Counts.{all_to}
use Rattle.districts.specs.Lists.{size}
use Rattle.districts.specs.WellFormed.{sized}
use Rattle.districts.proofs.runs.Runs.all_allowed.Given as goal

abbrev pub invariant-loop-d : goal.invariant-loop-d
invariant-loop-d l = l.good ≡ all_to l.d (λ k. sized (size l.self.list.now k))
