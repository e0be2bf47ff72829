-- The most vertices of a row. Assumes nothing.
use Rattle.std.specs.Prelude.{ℕ}

abbrev pub most_vertices : ℕ
most_vertices = 2048
