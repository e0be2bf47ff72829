-- Where points lie to an area with a lake, worked out from the definitions: one table. Assumes nothing.
use Prim.Native.Nat.{ℕ}
use mathlib.Core.Path.{◌≡◌, refl}
use mathlib.Core.List.{List, [], ◌∷◌, ◌++◌}
use lib.IntN.{ℤ, pos}
use Rattle.ring.specs.Grid.{point, vertices}
use Rattle.ring.specs.Rings.{at, total, ring_sum}
use Rattle.ring.specs.Turns.{quadrant, determinant, quarter_turns, winding}
use Rattle.ring.specs.Segment.{same, on_segment}
use Rattle.ring.specs.Locate.{vertex, edge, lowest, highest, located_on}
use Rattle.ring.specs.Known.{square}
use Rattle.areas.specs.Areas.{parts, given, Lie, on, off, lies_from, lies_in}

-- about (2,2), clockwise: the square runs the other way
abbrev lake : List ℤ
lake = pos 2 ∷ pos 1 ∷ pos 1 ∷ pos 2 ∷ pos 2 ∷ pos 3 ∷ pos 3 ∷ pos 2 ∷ []

-- the same corners, counterclockwise
abbrev turned : List ℤ
turned = pos 2 ∷ pos 1 ∷ pos 3 ∷ pos 2 ∷ pos 2 ∷ pos 3 ∷ pos 1 ∷ pos 2 ∷ []

abbrev sizes : List ℕ
sizes = 4 ∷ 4 ∷ 0 ∷ 0 ∷ 0 ∷ 0 ∷ 0 ∷ 0 ∷ 0 ∷ []

abbrev asked : List ℤ → ℤ → ℤ → Lie
asked inner a b = lies_in (parts (given sizes) (vertices (square ++ inner))) (point a b)

-- in the lake, between lake and square, a corner of the lake, an edge of the square; and in a lake that runs as the square does, where the winding number is 2
pub square-with-lake :
    ◌≡◌ {A = List Lie}
    (asked lake (pos 2) (pos 2) ∷ asked lake (pos 1) (pos 1) ∷ asked lake (pos 1) (pos 2) ∷ asked lake (pos 4) (pos 1) ∷ asked turned (pos 2) (pos 2) ∷ [])
    (off (pos 0) ∷ off (pos 1) ∷ on 1 (vertex 1 1) ∷ on 0 (edge 1 1) ∷ off (pos 2) ∷ [])
unfolding parts given lies_from located_on lowest highest vertices at total ring_sum quadrant determinant quarter_turns winding same on_segment
square-with-lake = refl
