-- What is answered by position, and the order of the refusals, worked out from the definitions: one table. Assumes nothing.
use mathlib.Core.Path.{◌≡◌, refl}
use mathlib.Core.Bool.{true, false}
use mathlib.Core.List.{List, [], ◌∷◌}
use lib.IntN.{pos, negsuc}
use lib.Ieee.{Float, nan, inf, fin}
use Rattle.ring.specs.Grid.{vertices}
use Rattle.ring.specs.Rings.{at, total, ring_sum}
use Rattle.ring.specs.Turns.{quadrant, determinant, quarter_turns, winding}
use Rattle.ring.specs.Segment.{same, on_segment}
use Rattle.ring.specs.Locate.{vertex, lowest, highest, located_on}
use Rattle.ring.specs.Known.{square}
use Rattle.districts.specs.Counts.{sum_to, list_to}
use Rattle.districts.specs.Register.{Register, unused}
use Rattle.districts.specs.Answers.{Answer, report, refused, border, one, none}
use Rattle.refusals.specs.Verdicts.{verdict}
use Rattle.register.specs.Sorting.{belongs_to}
use Rattle.register.specs.Founding.{founded}
use Rattle.register.specs.declared.Position.{Position}
use Rattle.register.specs.declared.Position.TheVariants.{Grid, Fix, Missing}
use Rattle.register.specs.Placing.{assigned_at}

-- 1.953125 and 3.90625 millimetres, 2 ^ 20 metres, and the double 2 ^ 1000
abbrev two : Float
two = fin false 1 (negsuc 8)

abbrev four : Float
four = fin false 1 (negsuc 7)

abbrev far : Float
far = fin false 1 (pos 20)

abbrev huge : Float
huge = fin false 1 (pos 1000)

abbrev fix : Float → Float → Position
fix e n = Fix (record { easting = e; northing = n })

abbrev nowhere : Register
nowhere = record { outline = unused; districts = list_to 64 (λ d. unused) }

abbrev asked : Position → Answer
asked p = assigned_at true (founded square) 7 p

-- in the square, on its corner by rounding, and outside; then 19, 18 before 5, 5; then 2 and 1 before them
pub by-position :
    ◌≡◌ {A = List Answer}
    (asked (Grid (pos 2) (pos 2)) ∷ asked (fix two two) ∷ asked (fix four four) ∷ asked (fix (fin true 1 (negsuc 7)) two)
    ∷ asked Missing ∷ asked (fix nan huge) ∷ asked (fix huge (inf true)) ∷ asked (fix far two) ∷ asked (fix two huge) ∷ asked (Grid (pos 0) (negsuc 1_000_000_000))
    ∷ assigned_at true nowhere 7 Missing ∷ assigned_at true nowhere 7 (fix nan nan) ∷ assigned_at false nowhere 7 Missing ∷ [])
    (report 7 (one 0) ∷ report 7 (one 0) ∷ report 7 (border 0 (vertex 2 2)) ∷ report 7 none
    ∷ refused 19 ∷ refused 18 ∷ refused 18 ∷ refused 5 ∷ refused 5 ∷ refused 5
    ∷ refused 2 ∷ refused 2 ∷ refused 1 ∷ [])
unfolding assigned_at verdict belongs_to founded sum_to list_to located_on lowest highest vertices at total ring_sum quadrant determinant quarter_turns winding same on_segment
by-position = refl
