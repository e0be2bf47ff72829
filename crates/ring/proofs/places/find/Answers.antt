-- `ring::places::find` looks for edges only where no vertex is r. Assumes nothing.
use Rattle.ring.proofs.Search.{first-passes}
use Rattle.ring.proofs.places.find.Goals as goal

pub highest_vertex-requires-clause-met : goal.highest_vertex-requires-clause-met
highest_vertex-requires-clause-met g c = (first-passes _ _ c.in-Some.lowest c.in-Some.ensures).1
