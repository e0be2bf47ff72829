-- docs/RULES.md, "The register", splitting district d from i to j along a path. Assumes nothing.
use Rattle.std.specs.Prelude.{ℕ, suc, ◌+◌, ◌%◌, Bool, not, ◌||◌, List, [], ◌∷◌, ◌++◌, reverse, eqb, leb, ltb, ℤ, length}
use Rattle.ring.specs.declared.Point.{Point}
use Rattle.ring.specs.Grid.{vertices, some_beyond, fewest_vertices, most_vertices}
use Rattle.ring.specs.Locate.{lowest}
use Rattle.districts.specs.Counts.{sum_to}
use Rattle.districts.specs.Lent.{beginning}
use Rattle.districts.specs.Register.{Register, numbers, slot, in_use, vertices_of}
use Rattle.refusals.specs.Verdicts.{Test, ◌if◌}
use Rattle.room.specs.Runs.{run, steps}

-- Pi, P(i+1), .., Pj, then Wk, .., W1
abbrev pub piece_one : List Point → ℕ → ℕ → List Point → List Point
piece_one P i j W = run P i (suc (steps (length P) i j)) ++ reverse W

-- Pj, .., Pi, then W1, .., Wk
abbrev pub piece_two : List Point → ℕ → ℕ → List Point → List Point
piece_two P i j W = run P j (suc (steps (length P) j i)) ++ W

-- the lowest unused number, 64 where all are in use
unfoldable pub lowest_unused : Register → ℕ
lowest_unused g = lowest (λ d. not (in_use (slot g d))) numbers 0

-- how many vertices all districts have
unfoldable pub vertex_count : Register → ℕ
vertex_count g = sum_to numbers (λ d. length (vertices_of (slot g d)))

-- refusals 1, 2, 6, 8, 4 (path of odd length only), 5, 9, 11, 12 in this order
abbrev pub split_tests : Bool → Register → ℕ → ℕ → ℕ → List ℤ → List Test
split_tests well_formed g d i j path =
    beginning well_formed g
    ++ (6 if not (in_use (slot g d)))
    ∷ (8 if (leb n i || leb n j) || eqb i j)
    ∷ (4 if eqb (length path % 2) 1)
    ∷ (5 if some_beyond path)
    ∷ (9 if ltb (length (piece_one P i j W)) fewest_vertices || ltb (length (piece_two P i j W)) fewest_vertices)
    ∷ (11 if leb numbers (lowest_unused g))
    ∷ (12 if ltb most_vertices (vertex_count g + 2 + length path))
    ∷ []
  where
    P : List Point
    P = vertices_of (slot g d)

    n : ℕ
    n = length P

    W : List Point
    W = vertices path
