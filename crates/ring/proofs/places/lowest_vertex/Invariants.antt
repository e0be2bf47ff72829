-- `ring::places::lowest_vertex` looks at every vertex in turn. The invariant: none of those before v is r. Assumes nothing.
use Rattle.ring.specs.Locate.{at_vertex}
use Rattle.ring.proofs.Search.{Unmet}
use Rattle.ring.proofs.places.lowest_vertex.Given as goal

abbrev pub invariant-loop-v : goal.invariant-loop-v
invariant-loop-v g l = Unmet (at_vertex (g.R.Ring.points l.ring) l.r) l.v
