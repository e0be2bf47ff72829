-- `ring::places::highest_vertex` looks at every vertex from the last on. The invariant: none of those from v on is r. Assumes nothing.
use Prim.Native.Nat.{ℕ, ◌≤◌, ◌<◌}
use mathlib.Core.Path.{◌≡◌}
use mathlib.Core.Bool.{false}
use lib.ListN.{length}
use Rattle.ring.specs.Locate.{at_vertex}
use Rattle.ring.proofs.places.highest_vertex.Given as goal

abbrev pub invariant-loop-v : goal.invariant-loop-v
invariant-loop-v g l = let P = g.R.Ring.points l.ring in (j : ℕ) → l.v ≤ j → j < length P → at_vertex P l.r j ≡ false
