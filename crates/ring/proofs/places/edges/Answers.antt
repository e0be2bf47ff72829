-- `ring::places::edges` takes every edge in turn. The invariant: the span is that of the edges before e, and `from` leads to vertex e. Assumes nothing.
use Prim.Native.Nat.{ℕ, ◌+◌}
use native.Mathlib.Omega.{arith}
use mathlib.Core.Path.{◌≡◌, sym, ap, subst, ◌∙◌}
use lib.ListN.{length}
use Rattle.ring.specs.Rings.{at}
use Rattle.ring.specs.Locate.{on_edge}
use Rattle.ring.specs.Walk.{head_of, Way, in_line, with_edge}
use Rattle.ring.proofs.Vertices.{at-end}
use Rattle.ring.proofs.Spans.{Spans, spans-edge, spans_all}
use Rattle.ring.proofs.places.edges.Goals as goal

pub loop-e-preserved : goal.loop-e-preserved
loop-e-preserved g c =
    let P = g.R.Ring.points c.args.ring.now in
    let R = head_of c.args.r in
    let (spans, way) = c.loop-e.invariant in
    (subst (Spans (on_edge P R) (c.loop-e.e + 1)) (sym c.along-met.ensures) (spans-edge P R c.loop-e.e c.loop-e.met _ _ way c.way-to.ensures spans), c.way-to.ensures)

pub returns : goal.returns
returns g c =
    let P = g.R.Ring.points c.args.ring.now in
    let R = head_of c.args.r in
    let e = c.loop-e.e in
    let (spans, way) = c.loop-e.invariant in
    let last : e + 1 ≡ length P = omega (arith, c.loop-e-test.false, c.len-last.ensures.all, c.len-last.ensures.least) in
    let round : at P 0 ≡ at P (e + 1) = sym (at-end P (omega (arith, last))) ∙ ap (at P) (sym last) in
    let to : Way R (at P (e + 1)) c.way.result = subst (λ Q. Way R Q c.way.result) round c.way.ensures in
    let all = spans-edge P R e c.loop-e.met _ _ way to spans in
    c.along.ensures
    ∙ ap (λ (k : ℕ). with_edge (in_line c.loop-e.from c.way.result) k c.loop-e.met) (omega (arith, last, c.len-last.ensures.all))
    ∙ spans_all (on_edge P R) (length P) _ (subst (λ (k : ℕ). Spans (on_edge P R) k (with_edge (in_line c.loop-e.from c.way.result) e c.loop-e.met)) last all)
