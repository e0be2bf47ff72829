-- The bound that keeps every sum of products of coordinates in 64 bits. Assumes nothing.
use Rattle.std.specs.Prelude.{ℕ}

-- one past the grid's largest coordinate, counted from its least
abbrev pub beyond : ℕ
beyond = 2000000001
