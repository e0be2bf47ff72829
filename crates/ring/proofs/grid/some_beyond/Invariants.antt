-- `ring::grid::some_beyond` looks at every number. The invariant: a number of the list is beyond the grid exactly if one was found
-- or one is left to find. Assumes nothing.
use Prim.Native.Nat.{ℕ, ◌≤◌}
use mathlib.Core.Path.{◌≡◌}
use mathlib.Core.Bool.{Bool, ◌||◌}
use mathlib.Core.List.{List}
use lib.IntN.{ℤ}
use lib.ListN.{length, drop}
use Rattle.ring.specs.Grid.{some_beyond}
use Rattle.ring.proofs.grid.some_beyond.Given as goal

pub record Looked (list : List ℤ) (found : Bool) (i : ℕ) : Type 0 where
  pub le : i ≤ length list
  pub so_far : some_beyond list ≡ (found || some_beyond (drop i list))

abbrev pub invariant-loop-x : goal.invariant-loop-x
invariant-loop-x l = Looked l.list l.found l.x-index
