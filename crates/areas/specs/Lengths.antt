-- The lengths of an area's rings, outer ring first: what they add up to, and which lists of them are refused. Assumes nothing.
use Rattle.std.specs.Prelude.{ℕ, zero, suc, ◌+◌, ◌/◌, ◌%◌, Bool, true, false, not, ◌||◌, List, [], ◌∷◌, eqb, ltb, length}
use Rattle.ring.specs.Grid.{fewest_vertices, most_vertices}

-- the outer ring and 8 lakes
abbrev pub most_rings : ℕ
most_rings = 9

unfoldable pub sum : List ℕ → ℕ
sum [] = 0
sum (n ∷ ns) = n + sum ns

unfoldable pub all_zero : List ℕ → Bool
all_zero [] = true
all_zero (zero ∷ ns) = all_zero ns
all_zero (suc n ∷ ns) = false

-- behind a 0 only 0
unfoldable pub closed : List ℕ → Bool
closed [] = true
closed (zero ∷ ns) = all_zero ns
closed (suc n ∷ ns) = closed ns

-- no ring has n vertices: fewer than 3, or more than 2,048
abbrev pub outside : ℕ → Bool
outside n = ltb n fewest_vertices || ltb most_vertices n

unfoldable pub some_outside : List ℕ → Bool
some_outside [] = false
some_outside (n ∷ ns) = outside n || some_outside ns

-- a list of so many numbers x, y, x, y, .. that is not the rings of these lengths: it is odd, there is no length at all, a length is outside 3 .. 2,048, or the lengths don't use the
-- points exactly
abbrev pub no_rings : ℕ → List ℕ → Bool
no_rings numbers lengths = eqb (numbers % 2) 1 || (eqb (length lengths) 0 || (some_outside lengths || not (eqb (sum lengths) (numbers / 2))))

-- more than 8 lakes
abbrev pub too_many_lakes : List ℕ → Bool
too_many_lakes lengths = ltb most_rings (length lengths)
