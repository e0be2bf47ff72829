-- `scores` meets its contract. The invariant: an edge has added at most 2 to either count. Assumes nothing.
use Rattle.std.proofs.Common.{◌+◌, ◌≤◌}
use Rattle.test_second.proofs.scores.Given as goal

abbrev pub invariant-loop-i : goal.invariant-loop-i
invariant-loop-i l = (l.forward ≤ l.i + l.i) × (l.backward ≤ l.i + l.i)
