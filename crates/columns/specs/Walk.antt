-- What the functions that go over the rings of an area ask of the columns that hold them. Assumes nothing.
use Rattle.std.specs.Prelude.{◌≤◌, ◌≡◌, false, List, length, ℤ}
use Rattle.ring.specs.declared.Point.{Point}
use Rattle.ring.specs.Grid.{some_beyond}
use Rattle.ring.specs.Walk.{OnGrid}

-- two columns of points of the grid, and a point of the grid
pub record Clean (xs ys : List ℤ) (R : Point) : Type 0 where
  pub even : length xs ≡ length ys
  pub most : length xs ≤ 2048
  pub grid-x : some_beyond xs ≡ false
  pub grid-y : some_beyond ys ≡ false
  pub point : OnGrid R
