-- `ring::places::edges` takes every edge in turn. The invariant: the span is that of the edges before e, and `from` leads to vertex e. Assumes nothing.
use Rattle.ring.specs.Rings.{at}
use Rattle.ring.specs.Locate.{on_edge}
use Rattle.ring.specs.Walk.{head_of, Way}
use Rattle.ring.proofs.Spans.{Spans}
use Rattle.ring.proofs.places.edges.Given as goal

abbrev pub invariant-loop-e : goal.invariant-loop-e
invariant-loop-e g l = let P = g.R.Ring.points l.ring in Spans (on_edge P (head_of l.r)) l.e l.met × Way (head_of l.r) (at P l.e) l.from
