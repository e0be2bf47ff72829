-- `ring::counting::blocks`: the closing edge, and after some blocks the first i edges. The measure is the number of edges left. Assumes nothing.
use Prim.Native.Nat.{◌-◌, ◌≤◌}
use Rattle.ring.specs.Walk.{Counts}
use Rattle.ring.proofs.counting.blocks.Given as goal

abbrev pub invariant-loop-i : goal.invariant-loop-i
invariant-loop-i g l = (l.i ≤ l.last) × Counts (g.R.Ring.points l.ring) l.r 0 l.i l.initial.count l.count

abbrev pub decreases-loop-i : goal.decreases-loop-i
decreases-loop-i g l = l.last - l.i
