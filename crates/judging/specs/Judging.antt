-- The tests of a split, asked of the numbers that the lists hold, and those of a merge, asked of two slots. No public promise cites it.
-- Assumes nothing.
use Rattle.std.specs.Prelude.{ℕ, ◌+◌, ◌/◌, ◌%◌, ◌<◌, ◌≡◌, not, ◌||◌, List, [], ◌∷◌, eqb, leb, ltb, ℤ, length, Option, Some, None, Result, Ok, Err}
use Rattle.ring.specs.declared.Point.{Point}
use Rattle.ring.specs.Grid.{some_beyond, fewest_vertices, most_vertices}
use Rattle.ring.specs.Locate.{lowest}
use Rattle.districts.specs.Register.{Slot, in_use, vertices_of}
use Rattle.districts.specs.Lists.{size}
use Rattle.districts.specs.WellFormed.{total}
use Rattle.refusals.specs.declared.Refusal.{Refusal}
use Rattle.refusals.specs.Numbers.{number_of}
use Rattle.refusals.specs.Verdicts.{Test, ◌if◌, Verdict, accept, refuse}
use Rattle.room.specs.Runs.{steps}
use Rattle.judging.specs.Merging.{matches, merged}

-- the lowest number whose size is 0, 64 where there is none
abbrev pub lowest_free : List ℕ → ℕ
lowest_free runs = lowest (λ d. eqb (size runs d) 0) 64 0

-- how the code says a number below 64, or that there is none
abbrev pub Frees : Option ℕ → ℕ → Type 0
Frees (Some d) n = (d ≡ n) × (d < 64)
Frees None n = n ≡ 64

-- what a judge of splits says: the number of the new district, or the refusal
abbrev pub Judged : Result ℕ Refusal → Verdict → ℕ → Type 0
Judged (Ok d) v n = (v ≡ accept) × (d ≡ n)
Judged (Err r) v n = v ≡ refuse (number_of r)

-- refusals 6, 8, 4, 5, 9, 11, 12
abbrev pub district_tests : List ℕ → ℕ → ℕ → ℕ → List ℤ → List Test
district_tests runs d i j path =
    (6 if eqb n 0)
    ∷ (8 if (leb n i || leb n j) || eqb i j)
    ∷ (4 if eqb (length path % 2) 1)
    ∷ (5 if some_beyond path)
    ∷ (9 if ltb (1 + steps n i j + length path / 2) fewest_vertices || ltb (1 + steps n j i + length path / 2) fewest_vertices)
    ∷ (11 if leb 64 (lowest_free runs))
    ∷ (12 if ltb most_vertices (total runs + 2 + length path))
    ∷ []
  where
    n : ℕ
    n = size runs d

-- refusals 8, 10, 9, of two rings
abbrev pub border_tests : List Point → ℕ → List Point → ℕ → ℕ → List Test
border_tests P a Q b k =
    (8 if leb (length P) a || leb (length Q) b)
    ∷ (10 if (eqb k 0 || (leb (length P) k || leb (length Q) k)) || not (matches P a Q b k))
    ∷ (9 if ltb (length (merged P a Q b k)) fewest_vertices)
    ∷ []

-- refusals 6, 7, of the slots of numbers A and B, then those
abbrev pub pair_tests : Slot → Slot → ℕ → ℕ → ℕ → ℕ → ℕ → List Test
pair_tests p q A a B b k =
    (6 if not (in_use p) || not (in_use q))
    ∷ (7 if eqb A B)
    ∷ border_tests (vertices_of p) a (vertices_of q) b k
