-- `fixes::millimetres` asks both values before either is rounded, and the grid of what stands for them. Assumes nothing.
use mathlib.Core.Path.{◌≡◌, refl, sym, ap, ◌∙◌, subst}
use mathlib.Core.Bool.{Bool, true, false, not, ◌&&◌, ◌||◌}
use lib.Dec.{T}
use lib.IntN.{ℤ}
use lib.Ieee.{Float}
use mir.Syntax.{w32}
use mir.Val.{SFits, to_z, of_z}
use mir.Facts.{to_z-of_z}
use Rattle.std.specs.Prelude.{Ok, Err}
use Rattle.refusals.specs.declared.Refusal.TheVariants.{BeyondGrid}
use Rattle.std.specs.Float.{float_is_finite}
use Rattle.ring.specs.Grid.{point, beyond}
use Rattle.ring.proofs.Pick.{pick_true, pick-false, neither_left, neither_right}
use Rattle.fixes.specs.Nearest.{finite}
use Rattle.fixes.specs.Millimetres.{millimetres as exactly, placed, StandsFor}
use Rattle.fixes.proofs.Doubles.{is_finite-finite}
use Rattle.fixes.proofs.millimetres.Goals as goal

both : (a b : Bool) → (a && b) ≡ true → (a ≡ true) × (b ≡ true)
both true b e = (refl, e)
both false b e = absurd (subst T (sym e) tt)

-- two doubles x and y, of which the tests told a and b
module _ (x y : Float) (a b : Bool) (d : a ≡ float_is_finite x) (e : b ≡ float_is_finite y) where
  asked : (a && b) ≡ (finite x && finite y)
  asked = λ i. (d ∙ is_finite-finite x) i && (e ∙ is_finite-finite y) i

  finite-both : (a && b) ≡ true → (finite x ≡ true) × (finite y ≡ true)
  finite-both h = both (finite x) (finite y) (sym asked ∙ h)

  not-finite : (a && b) ≡ false → not (finite x && finite y) ≡ true
  not-finite h = ap not (sym asked ∙ h)

  -- v and w stand for them, and p and q say which is beyond the grid
  module _ (h : (a && b) ≡ true) (v w : ℤ) (f : SFits w32 v) (g : SFits w32 w) (s : StandsFor v x) (t : StandsFor w y) (p q : Bool) (k : p ≡ beyond (to_z w32 (of_z w32 v))) (l : q ≡ beyond (to_z w32 (of_z w32 w))) where
    passed : not (finite x && finite y) ≡ false
    passed = ap not (sym asked ∙ h)

    either : (p || q) ≡ (beyond (exactly x) || beyond (exactly y))
    either = λ i. (k ∙ ap beyond (to_z-of_z f) ∙ s.far) i || (l ∙ ap beyond (to_z-of_z g) ∙ t.far) i

    beyond-grid : (p || q) ≡ true → Err BeyondGrid ≡ placed x y
    beyond-grid u = sym (pick-false passed _ _ ∙ pick_true (sym either ∙ u) _ _)

    on-grid : (p || q) ≡ false → Ok (point (to_z w32 (of_z w32 v)) (to_z w32 (of_z w32 w))) ≡ placed x y
    on-grid u =
        let within : (beyond (exactly x) || beyond (exactly y)) ≡ false = sym either ∙ u in
        let same-x : to_z w32 (of_z w32 v) ≡ exactly x = to_z-of_z f ∙ s.near (neither_left (beyond (exactly x)) _ within) in
        let same-y : to_z w32 (of_z w32 w) ≡ exactly y = to_z-of_z g ∙ t.near (neither_right (beyond (exactly x)) _ within) in
        (λ i. Ok (point (same-x i) (same-y i))) ∙ sym (pick-false passed _ _ ∙ pick-false within _ _)

pub returns-then-not-is_finite : goal.returns-then-not-is_finite
returns-then-not-is_finite c = sym (pick_true (not-finite _ _ _ _ c.is_finite.ensures.value c.is_finite-2.ensures.value c.if-not-is_finite.true) _ _)

pub nearest-x-requires : goal.nearest-x-requires
nearest-x-requires c = (finite-both _ _ _ _ c.is_finite.ensures.value c.is_finite-2.ensures.value c.if-not-is_finite.false).0

pub nearest-y-requires : goal.nearest-y-requires
nearest-y-requires c = (finite-both _ _ _ _ c.is_finite.ensures.value c.is_finite-2.ensures.value c.if-not-is_finite.false).1

pub returns-then-beyond : goal.returns-then-beyond
returns-then-beyond c =
    let x = c.nearest-x in
    let y = c.nearest-y in
    beyond-grid c.args.fix.easting c.args.fix.northing _ _ c.is_finite.ensures.value c.is_finite-2.ensures.value c.if-not-is_finite.false _ _ (record { sfits = x.type_inv }) (record { sfits = y.type_inv }) x.ensures y.ensures _ _ c.beyond.ensures c.beyond-2.ensures c.if-beyond.true

pub returns : goal.returns
returns c =
    let x = c.nearest-x in
    let y = c.nearest-y in
    on-grid c.args.fix.easting c.args.fix.northing _ _ c.is_finite.ensures.value c.is_finite-2.ensures.value c.if-not-is_finite.false _ _ (record { sfits = x.type_inv }) (record { sfits = y.type_inv }) x.ensures y.ensures _ _ c.beyond.ensures c.beyond-2.ensures c.if-beyond.false
