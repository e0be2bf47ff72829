-- docs/RULES.md, "The register", founding: the outline is stored, and district 0 made with the same ring. Assumes nothing.
use Rattle.std.specs.Prelude.{◌/◌, Bool, not, List, [], ◌∷◌, eqb, ℤ, length}
use Rattle.ring.specs.Grid.{no_ring, some_beyond, vertices}
use Rattle.ring.specs.Choices.{pick}
use Rattle.districts.specs.Counts.{list_to}
use Rattle.districts.specs.Register.{unused, ring, Register, numbers, in_use}
use Rattle.refusals.specs.Verdicts.{Test, ◌if◌}

-- refusals 1, 3, 4, 5 in this order
abbrev pub found_tests : Bool → Register → List ℤ → List Test
found_tests well_formed g xs =
    (1 if not well_formed) ∷ (3 if in_use g.outline) ∷ (4 if no_ring (length xs) (length xs / 2)) ∷ (5 if some_beyond xs) ∷ []

-- the register with this outline and district 0
unfoldable pub founded : List ℤ → Register
founded xs = record { outline = ring (vertices xs); districts = list_to numbers (λ d. pick (eqb d 0) (ring (vertices xs)) unused) }
