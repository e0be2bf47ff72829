-- `Rows::vertices` meets its contract. The invariant: a row has added at most 2,048. Assumes nothing.
use Rattle.test_rows.specs.Shape.{most_vertices}
use Rattle.std.proofs.Common.{◌*◌, ◌≤◌}
use Rattle.test_rows.proofs.rows.Rows.vertices.Given as goal

abbrev pub invariant-loop-row : goal.invariant-loop-row
invariant-loop-row l = l.n ≤ most_vertices * l.row-index
