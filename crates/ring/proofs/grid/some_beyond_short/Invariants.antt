-- `ring::grid::some_beyond_short` goes by fours. The invariant: no number before i is beyond the grid, and i is at most four past the last four's place. Assumes nothing.
use Prim.Native.Nat.{◌+◌, ◌-◌, ◌<◌}
use Rattle.ring.proofs.Search.{Unmet}
use Rattle.ring.proofs.Within.{beyond_at}
use Rattle.ring.proofs.grid.some_beyond_short.Given as goal

abbrev pub invariant-loop-i : goal.invariant-loop-i
invariant-loop-i l = (l.i < l.last + 4) × Unmet (beyond_at l.list) l.i

abbrev pub decreases-loop-i : goal.decreases-loop-i
decreases-loop-i l = l.last + 4 - l.i
