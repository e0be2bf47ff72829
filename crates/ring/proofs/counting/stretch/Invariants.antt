-- `ring::counting::stretch`: after j edges the count is that of j edges, and the end is vertex i + j. Assumes nothing.
use Prim.Native.Nat.{◌+◌}
use Rattle.ring.specs.Rings.{at}
use Rattle.ring.specs.Walk.{head_of, Sight, Counts}
use Rattle.ring.proofs.counting.stretch.Given as goal

abbrev pub invariant-loop-j : goal.invariant-loop-j
invariant-loop-j g l =
    let P = g.R.Ring.points l.ring in
    Counts P (head_of l.r) l.i l.j l.initial.count l.count × Sight (head_of l.r) (at P (l.i + l.j)) l.from
