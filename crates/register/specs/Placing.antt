-- A report's position is one of three, and where a report with it belongs. Assumes nothing.
use Rattle.std.specs.Prelude.{ℕ, Bool, true, false, not, ◌&&◌, List, ◌∷◌, ◌++◌, ℤ, pos}
use Rattle.ring.specs.Grid.{point}
use Rattle.districts.specs.Register.{Register}
use Rattle.districts.specs.Lent.{beginning}
use Rattle.districts.specs.Answers.{Answer, report}
use Rattle.refusals.specs.Verdicts.{Test, ◌if◌, verdict}
use Rattle.register.specs.Sorting.{point_tests, belongs_to, given}
use Rattle.fixes.specs.Nearest.{finite}
use Rattle.fixes.specs.Millimetres.{millimetres}
use Rattle.register.specs.declared.Position.{Position}
use Rattle.register.specs.declared.Position.TheVariants.{Grid, Fix, Missing}

abbrev pub is_missing : Position → Bool
is_missing (Grid x y) = false
is_missing (Fix f) = false
is_missing Missing = true

-- a NaN or an infinity in either value
abbrev pub not_finite : Position → Bool
not_finite (Grid x y) = false
not_finite (Fix f) = not (finite f.easting && finite f.northing)
not_finite Missing = false

-- where a position is on the grid, in millimetres; a missing one is nowhere, and refused before it is asked
abbrev pub east_of : Position → ℤ
east_of (Grid x y) = x
east_of (Fix f) = millimetres f.easting
east_of Missing = pos 0

abbrev pub north_of : Position → ℤ
north_of (Grid x y) = y
north_of (Fix f) = millimetres f.northing
north_of Missing = pos 0

-- refusals 19, 18, 5 in this order
abbrev pub position_tests : Position → List Test
position_tests p = (19 if is_missing p) ∷ (18 if not_finite p) ∷ point_tests (east_of p) (north_of p)

-- refusals 1, 2, 19, 18, 5 in this order
abbrev pub place_tests : Bool → Register → Position → List Test
place_tests well_formed g p = beginning well_formed g ++ position_tests p

-- the answer to report r with position p
unfoldable pub assigned_at : Bool → Register → ℕ → Position → Answer
assigned_at well_formed g r p = given (verdict (place_tests well_formed g p)) (report r (belongs_to g (point (east_of p) (north_of p))))
