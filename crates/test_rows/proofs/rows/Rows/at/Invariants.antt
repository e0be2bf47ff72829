-- `Rows::at` meets its contract. The invariant: at most as many districts are counted as were looked at. Assumes nothing.
use Rattle.std.proofs.Common.{◌+◌, ◌≤◌, IfSome}
use Rattle.test_rows.proofs.rows.Rows.at.Given as goal

abbrev pub invariant-loop-d : goal.invariant-loop-d
invariant-loop-d l = IfSome l.inside (λ p. p.1 + l.d ≤ 64)
