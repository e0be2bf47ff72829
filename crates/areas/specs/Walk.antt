-- What the functions that go over the rings of an area ask. Assumes nothing.
use Rattle.std.specs.Prelude.{ℕ, ◌*◌, ◌≤◌, ◌≡◌, false, List, length, ℤ}
use Rattle.ring.specs.declared.Point.{Point}
use Rattle.ring.specs.Walk.{most_turns}
use Rattle.columns.specs.Walk.{Clean}
use Rattle.areas.specs.Areas.{given}
use Rattle.areas.specs.Lengths.{most_rings, sum, some_outside}

-- the columns hold the rings of an area, one behind the other, as the sizes say; and a point of the grid
pub record Ready (xs ys : List ℤ) (sizes : List ℕ) (R : Point) : Type 0 where
  pub nine : length sizes ≡ most_rings
  pub sized : some_outside (given sizes) ≡ false
  pub fits : sum (given sizes) ≤ length xs
  pub clean : Clean xs ys R

-- more than the winding number about all rings of any area
abbrev pub most_about : ℕ
most_about = most_rings * most_turns
