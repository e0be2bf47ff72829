-- `register::listing::sort_listed` takes one listed number after the other. Assumes nothing.
use Prim.Native.Nat.{◌+◌}
use native.Mathlib.Omega.{arith}
use mathlib.Core.Path.{◌≡◌, sym, subst, ◌∙◌}
use mathlib.Core.Logic.{◌⊎◌, inl, inr}
use lib.Count.{count_trailing_zeros}
use Rattle.columns.specs.declared.Line.{Line}
use Rattle.ring.specs.Locate.{Place}
use Rattle.register.specs.declared.standing.Stance.{Stance}
use Rattle.register.specs.declared.standing.Stance.TheVariants.{Outside, Missed}
use Rattle.register.specs.Seen.{OneMore}
use Rattle.register.specs.Standing.{Stands}
use Rattle.register.proofs.Listed.{first-turn}
use Rattle.register.proofs.Turns.{all-seen, lowest-left, next-turn, fewer}
use Rattle.register.proofs.Runs.{lies}
use Rattle.register.proofs.Sorts.{Quiet, Sorts, sorts-none, sorts-more, sorts-same, sorts-border, sorts-all}
use Rattle.register.proofs.listing.sort_listed.Goals as goal
use Rattle.register.proofs.listing.sort_listed.Goals.{in-Inside, in-Outside}

outside : (s : Stance) (p : Place) → (s ≡ Outside) ⊎ ((line : Line) × (s ≡ Missed line)) → Stands s p → Quiet p
outside s p (inl e) h = subst (λ s. Stands s p) e h
outside s p (inr m) h = subst (λ s. Stands s p) m.1 h

pub loop-left-init : goal.loop-left-init
loop-left-init c = first-turn c.args.store.now c.args.index.now c.requires.indexed c.args.r _ _ c.candidates-left.ensures (sorts-none _ _ c.none-seen.ensures)

pub returns-in-On : goal.returns-in-On
returns-in-On c =
    let reached = lowest-left _ _ _ c.loop-left.invariant c.loop-left-test.true c.loop-left.auto.left-fits in
    let place = lies c.args.store.now c.args.r in
    let d = count_trailing_zeros 64 c.loop-left.left in
    sorts-border place d _ _ reached.0 reached.1 (subst (λ s. Stands s (place d)) c.in-On.is c.lies_near.ensures)

pub with-seen-requires : goal.with-seen-requires
with-seen-requires c =
    let reached = lowest-left _ _ _ c.loop-left.invariant c.loop-left-test.true c.loop-left.auto.left-fits in
    omega (arith, reached.0, reached.1.few)

pub loop-left-smaller : goal.loop-left-smaller
loop-left-smaller c = fewer _ _ _ c.loop-left.invariant c.loop-left-test.true c.loop-left.auto.left-fits

pub loop-left-preserved : goal.loop-left-preserved
loop-left-preserved c =
    let reached = lowest-left _ _ _ c.loop-left.invariant c.loop-left-test.true c.loop-left.auto.left-fits in
    let place = lies c.args.store.now c.args.r in
    let d = count_trailing_zeros 64 c.loop-left.left in
    let after : Sorts place (d + 1) c.match-lies_near.seen = elim c.match-lies_near.branch [
      | in-Inside w ↦ sorts-more place d _ _ reached.0 reached.1 w.in-Inside.ensures (subst (OneMore c.loop-left.seen d) (sym w.seen-is) w.with-seen.ensures)
      | in-Outside w ↦ sorts-same place d _ _ reached.0 reached.1 (outside _ (place d) w.in-Outside.is c.lies_near.ensures) w.seen-is
    ] in
    next-turn place _ _ c.loop-left.invariant c.loop-left-test.true c.loop-left.auto.left-fits _ after

pub returns : goal.returns
returns c =
    let place = lies c.args.store.now c.args.r in
    c.class.ensures ∙ sorts-all place _ (all-seen place _ _ c.loop-left.invariant c.loop-left-test.false)
