-- The masks, one number after the other, and what they do not list. Assumes nothing.
use Prim.Native.Nat.{ℕ, ◌+◌, ◌<◌}
use native.Mathlib.Decide.{ℕ_discrete}
use native.Mathlib.Omega.{arith}
use mathlib.Core.Path.{◌≡◌, refl, sym, ap, subst, ◌∙◌}
use mathlib.Core.Bool.{Bool, true, false, ◌||◌, true≢false}
use mathlib.Core.List.{List}
use lib.IntN.{ℤ}
use lib.ListN.{get_or}
use lib.Signed.{lt_z, le_z}
use Rattle.ring.proofs.Pick.{pick-false}
use Rattle.districts.specs.Lists.{size}
use Rattle.districts.proofs.Tests.{both_left, both_right}
use Rattle.index.specs.declared.bands.Axis as Code
use Rattle.index.specs.declared.bounds.Bounds.{Bounds}
use Rattle.index.specs.Axis.{Held, low_of, high_of, within, Bounded, band, Spans, bit, Covers, Widened, Marked, listed, RunBeside, Fits}
use Rattle.index.proofs.Order.{lt-le-trans, le_lt_trans, le_trans}
use Rattle.index.proofs.Growing.{band-grows}
use Rattle.index.proofs.Bounding.{above-all, below_all, outside}

module _ (bounds : List Bounds) (runs : List ℕ) (a : Code.Axis) where
  -- a used number, from the band of its low bound to that of its high one
  pub marked-with : (d from to : ℕ) (masks after : List ℕ) → Marked bounds runs a d masks → from ≡ band a.low a.shift (low_of bounds d) → to ≡ band a.low a.shift (high_of bounds d) → Widened masks d from to after → Marked bounds runs a (d + 1) after
  marked-with d from to masks after m f t w = record {
    room = w.room ∙ m.room;
    touched = λ e h u. elim (ℕ_discrete e d) [
      | yes same ↦ subst (λ k. Covers after k (band a.low a.shift (low_of bounds k)) (band a.low a.shift (high_of bounds k))) (sym same) (λ b k l. w.new b (omega (arith, f, k)) (omega (arith, t, l)))
      | no other ↦ λ b k l. w.kept b e (m.touched e (omega arith) u b k l)
    ];
  }

module _ (column : List ℤ) (runs : List ℕ) (held : Held column runs) (bounds : List Bounds) (bounded : Bounded column runs 64 bounds) (a : Code.Axis) (spans : Spans bounds a) (masks : List ℕ) (marked : Marked bounds runs a 64 masks) where
  -- a number on the axis within d's bounds is in a band that lists d
  lists : (d : ℕ) → d < 64 → 0 < size runs d → (v : ℤ) → le_z (low_of bounds d) v ≡ true → le_z v (high_of bounds d) ≡ true → bit (get_or masks (band a.low a.shift v) 0) d ≡ true
  lists d h u v e f = marked.touched d h u (band a.low a.shift v)
      (band-grows a.low a.shift (low_of bounds d) v (spans.low d h) e)
      (band-grows a.low a.shift v (high_of bounds d) (le_trans a.low (low_of bounds d) v (spans.low d h) e) f)

  unlisted : (d : ℕ) (v : ℤ) → d < 64 → 0 < size runs d → bit (listed masks a v) d ≡ false → RunBeside column runs d v
  unlisted d v h u e = go (lt_z v a.low) (lt_z a.high v) refl refl
    where
      inside : (lt_z v a.low || lt_z a.high v) ≡ false → (t : Bool) → within bounds d v ≡ t → RunBeside column runs d v
      inside on false f = outside column runs held d h u v bounds bounded f
      inside on true f = absurd (true≢false (sym (lists d h u v (both_left (le_z (low_of bounds d) v) _ f) (both_right (le_z (low_of bounds d) v) _ f)) ∙ sym (ap (λ m. bit m d) (pick-false on _ _)) ∙ e))

      go : (s t : Bool) → lt_z v a.low ≡ s → lt_z a.high v ≡ t → RunBeside column runs d v
      go true t p q = above-all column runs held d h u v (low_of bounds d) (bounded.low d h u) (lt-le-trans v a.low (low_of bounds d) p (spans.low d h))
      go false true p q = below_all column runs held d h u v (high_of bounds d) (bounded.high d h u) (le_lt_trans (high_of bounds d) a.high v (spans.high d h) q)
      go false false p q = inside (λ i. p i || q i) (within bounds d v) refl

  pub index-fits : Fits column runs bounds masks a
  index-fits = record {
    bounds-room = bounded.room;
    masks-room = marked.room;
    axis = spans.axis;
    outside = λ d v h u e. outside column runs held d h u v bounds bounded e;
    unlisted = unlisted;
  }
