-- `ring::places::lowest_vertex` looks at every vertex in turn. The invariant: none of those before v is r. Assumes nothing.
use native.Mathlib.Omega.{arith}
use mathlib.Core.Path.{◌≡◌, sym, ap, ◌∙◌}
use Rattle.ring.specs.Segment.{same}
use Rattle.ring.specs.Locate.{at_vertex}
use Rattle.ring.proofs.Same.{equal-same}
use Rattle.ring.proofs.Search.{unmet-more, first_hit, first-none}
use Rattle.ring.proofs.places.lowest_vertex.Goals as goal

pub returns-then-eq : goal.returns-then-eq
returns-then-eq g c =
    let tested : at_vertex (g.R.Ring.points c.args.ring.now) c.args.r c.loop-v.v ≡ c.eq.result = sym (c.eq.ensures ∙ equal-same c.vertex.result c.args.r ∙ ap (same c.args.r) c.vertex.ensures.here) in
    first_hit _ _ c.loop-v.v (omega (arith, c.loop-v-test.true, c.len-v-end.ensures.all)) (tested ∙ c.if-eq.true) c.loop-v.invariant

pub loop-v-preserved : goal.loop-v-preserved
loop-v-preserved g c =
    let tested : at_vertex (g.R.Ring.points c.args.ring.now) c.args.r c.loop-v.v ≡ c.eq.result = sym (c.eq.ensures ∙ equal-same c.vertex.result c.args.r ∙ ap (same c.args.r) c.vertex.ensures.here) in
    unmet-more _ c.loop-v.v (tested ∙ c.if-eq.false) c.loop-v.invariant

pub returns : goal.returns
returns g c = first-none _ _ (λ j h. c.loop-v.invariant j (omega (arith, c.loop-v-test.false, c.len-v-end.ensures.all)))
