-- The bounds that the makers of rings keep. Assumes nothing.
use Rattle.std.specs.Prelude.{ℕ, ◌<◌}

-- how many numbers the lent list has
abbrev pub room : ℕ
room = 4100

-- a coordinate of the grid, counted from one below its least
abbrev pub OnGrid : ℕ → Type 0
OnGrid n = (0 < n) × (n < 2000000002)
