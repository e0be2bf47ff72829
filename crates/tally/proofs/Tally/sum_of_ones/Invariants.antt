-- The loop's invariant: the sum is that of the counts passed, each below 2 ^ 32. Assumes nothing.
use Rattle.std.proofs.Common.{◌≡◌, ◌*◌, ◌≤◌, get_or}
use Rattle.districts.specs.Counts.{sum_to}
use Rattle.tally.specs.Tally.{most}
use Rattle.tally.proofs.Tally.sum_of_ones.Given as goal

abbrev pub invariant-loop-n : goal.invariant-loop-n
invariant-loop-n l = (l.sum ≡ sum_to l.n-index (λ k. get_or l.self.ones k 0)) × (l.sum ≤ l.n-index * most)
