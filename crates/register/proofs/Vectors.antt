-- Where points belong in a founded register, worked out from the definitions: one table. Assumes nothing.
use mathlib.Core.Path.{◌≡◌, refl}
use mathlib.Core.List.{List, [], ◌∷◌, ◌++◌}
use lib.IntN.{ℤ, pos}
use Rattle.ring.specs.Grid.{point, vertices}
use Rattle.ring.specs.Rings.{at, total, ring_sum}
use Rattle.ring.specs.Turns.{quadrant, determinant, quarter_turns, winding}
use Rattle.ring.specs.Segment.{same, on_segment}
use Rattle.ring.specs.Locate.{vertex, edge, lowest, highest, located_on}
use Rattle.ring.specs.Known.{square, backwards}
use Rattle.districts.specs.Counts.{sum_to, list_to}
use Rattle.districts.specs.Answers.{Belongs, border, one, none}
use Rattle.register.specs.Sorting.{belongs_to}
use Rattle.register.specs.Founding.{founded}

abbrev asked : List ℤ → ℤ → ℤ → Belongs
asked xs a b = belongs_to (founded xs) (point a b)

-- the square, its corner, its edge and the outside; backwards, with winding number -1; and twice over, with winding number 2, which is even
pub founded-square :
    ◌≡◌ {A = List Belongs}
    (asked square (pos 2) (pos 2) ∷ asked square (pos 4) (pos 4) ∷ asked square (pos 4) (pos 1) ∷ asked square (pos 9) (pos 9) ∷ asked backwards (pos 2) (pos 2) ∷ asked (square ++ square) (pos 2) (pos 2) ∷ [])
    (one 0 ∷ border 0 (vertex 2 2) ∷ border 0 (edge 1 1) ∷ none ∷ one 0 ∷ one 0 ∷ [])
unfolding belongs_to founded sum_to list_to located_on lowest highest vertices at total ring_sum quadrant determinant quarter_turns winding same on_segment
founded-square = refl
