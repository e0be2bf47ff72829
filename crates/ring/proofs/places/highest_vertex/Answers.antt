-- `ring::places::highest_vertex` looks at every vertex from the last on. The invariant: none of those from v on is r. Assumes nothing.
use Prim.Native.Nat.{ℕ, ◌-◌}
use native.Mathlib.Decide.{ℕ_discrete}
use native.Mathlib.Omega.{arith}
use mathlib.Core.Path.{◌≡◌, sym, ap, subst, ◌∙◌}
use mathlib.Core.Bool.{false}
use Rattle.ring.specs.Segment.{same}
use Rattle.ring.specs.Locate.{at_vertex}
use Rattle.ring.proofs.Same.{equal-same}
use Rattle.ring.proofs.Search.{highest-last}
use Rattle.ring.proofs.places.highest_vertex.Goals as goal

pub returns-then-eq : goal.returns-then-eq
returns-then-eq g c =
    let P = g.R.Ring.points c.args.ring.now in
    let v = c.loop-v.v - 1 in
    let tested : at_vertex P c.args.r v ≡ c.eq.result = sym (c.eq.ensures ∙ equal-same c.vertex.result c.args.r ∙ ap (same c.args.r) c.vertex.ensures.here) in
    highest-last _ _ v (omega (arith, c.loop-v-test.true, c.len-v.ensures.all)) (tested ∙ c.if-eq.true) (λ j h l. c.loop-v.invariant j (omega (arith, h)) l)

pub loop-v-preserved : goal.loop-v-preserved
loop-v-preserved g c j h l =
    let P = g.R.Ring.points c.args.ring.now in
    let v = c.loop-v.v - 1 in
    let tested : at_vertex P c.args.r v ≡ c.eq.result = sym (c.eq.ensures ∙ equal-same c.vertex.result c.args.r ∙ ap (same c.args.r) c.vertex.ensures.here) in
    elim (ℕ_discrete v j) [
      | yes s ↦ subst (λ (m : ℕ). at_vertex P c.args.r m ≡ false) s (tested ∙ c.if-eq.false)
      | no s ↦ c.loop-v.invariant j (omega (arith, h, s)) l
    ]

pub returns : goal.returns
returns g c = highest-last _ _ c.args.lowest c.requires.lowest_in_bounds c.requires.met (λ j h l. c.loop-v.invariant j (omega (arith, h, c.loop-v-test.false)) l)
