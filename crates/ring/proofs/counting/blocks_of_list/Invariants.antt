-- `ring::counting::blocks_of_list`: the closing edge, and after some blocks the first i edges. The measure is the number of edges left. Assumes nothing.
use Prim.Native.Nat.{◌-◌, ◌≤◌}
use Rattle.ring.specs.Grid.{vertices}
use Rattle.ring.specs.Walk.{Counts}
use Rattle.ring.proofs.counting.blocks_of_list.Given as goal

abbrev pub invariant-loop-i : goal.invariant-loop-i
invariant-loop-i l = (l.i ≤ l.last) × Counts (vertices l.ring.list.now) l.r 0 l.i l.initial.count l.count

abbrev pub decreases-loop-i : goal.decreases-loop-i
decreases-loop-i l = l.last - l.i
