-- docs/RULES.md, "The register", merging A from index a with B from index b along k edges. Assumes nothing.
use Rattle.std.specs.Prelude.{ℕ, suc, ◌+◌, ◌-◌, Bool, not, ◌||◌, List, [], ◌∷◌, ◌++◌, eqb, leb, ltb, length}
use Rattle.ring.specs.declared.Point.{Point}
use Rattle.ring.specs.Grid.{fewest_vertices}
use Rattle.ring.specs.Rings.{at}
use Rattle.ring.specs.Segment.{same}
use Rattle.districts.specs.Counts.{all_to}
use Rattle.districts.specs.Lent.{beginning}
use Rattle.districts.specs.Register.{Register, slot, in_use, vertices_of}
use Rattle.refusals.specs.Verdicts.{Test, ◌if◌}
use Rattle.room.specs.Runs.{run}

-- A(a+t) = B(b-t) for t = 0 .. k
unfoldable pub matches : List Point → ℕ → List Point → ℕ → ℕ → Bool
matches A a B b k = all_to (suc k) (λ t. same (at A (a + t)) (at B (b + length B - t)))

-- A(a+k), .., A(a), then B(b+1), .., B(b-k-1), both going forward
abbrev pub merged : List Point → ℕ → List Point → ℕ → ℕ → List Point
merged A a B b k = run A (a + k) (suc (length A - k)) ++ run B (suc b) (length B - suc k)

-- refusals 1, 2, 6, 7, 8, 10, 9 in this order
abbrev pub merge_tests : Bool → Register → ℕ → ℕ → ℕ → ℕ → ℕ → List Test
merge_tests well_formed g A a B b k =
    beginning well_formed g
    ++ (6 if not (in_use (slot g A)) || not (in_use (slot g B)))
    ∷ (7 if eqb A B)
    ∷ (8 if leb (length P) a || leb (length Q) b)
    ∷ (10 if (eqb k 0 || (leb (length P) k || leb (length Q) k)) || not (matches P a Q b k))
    ∷ (9 if ltb (length (merged P a Q b k)) fewest_vertices)
    ∷ []
  where
    P : List Point
    P = vertices_of (slot g A)

    Q : List Point
    Q = vertices_of (slot g B)
