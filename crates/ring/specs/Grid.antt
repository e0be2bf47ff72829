-- docs/RULES.md, "Points and rings": coordinates, points, and the ring that a list x, y, x, y, .. is. Assumes nothing.
use Rattle.std.specs.Prelude.{ℕ, ◌%◌, Bool, false, ◌||◌, List, [], ◌∷◌, ltb, eqb, ℤ, pos, negsuc}
use Rattle.std.specs.Int.Signed.{lt_z}
use Rattle.ring.specs.declared.Point.{Point}

-- a coordinate below -1,000,000,000 or above 1,000,000,000
abbrev pub beyond : ℤ → Bool
beyond x = lt_z x (negsuc 999_999_999) || lt_z (pos 1_000_000_000) x

-- some number of the list is beyond the grid
abbrev pub some_beyond : List ℤ → Bool
some_beyond [] = false
some_beyond (x ∷ xs) = beyond x || some_beyond xs

abbrev pub point : ℤ → ℤ → Point
point x y = record { x = x; y = y }

-- the vertices P0, P1, .. of the list x0, y0, x1, y1, ..
unfoldable pub vertices : List ℤ → List Point
vertices [] = []
vertices (x ∷ []) = []
vertices (x ∷ y ∷ xs) = point x y ∷ vertices xs

-- the fewest and the most vertices of a ring; all districts together have at most as many
abbrev pub fewest_vertices : ℕ
fewest_vertices = 3

abbrev pub most_vertices : ℕ
most_vertices = 2048

-- a list of m numbers that makes no ring: m is odd, or the m / 2 vertices are fewer than 3 or more than 2,048
abbrev pub no_ring : ℕ → ℕ → Bool
no_ring m n = eqb (m % 2) 1 || (ltb n fewest_vertices || ltb most_vertices n)
