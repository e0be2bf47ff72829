-- A number that an index does not list for a point, or within whose bounds the point is not, has nothing to say about it. Assumes nothing.
use Prim.Native.Nat.{ℕ, ◌<◌}
use native.Mathlib.Omega.{arith}
use mathlib.Core.Path.{◌≡◌, refl, sym, ap, ◌∙◌}
use mathlib.Core.Bool.{Bool, true, false, ◌&&◌, true≢false}
use lib.Bits.{bit_and}
use lib.Dec.{eqb}
use Rattle.ring.specs.declared.Point.{Point}
use Rattle.districts.specs.declared.store.Store.{Store}
use Rattle.index.specs.declared.Index.{Index}
use Rattle.index.specs.Axis.{within, bit, listed}
use Rattle.index.specs.Both.{Indexed}
use Rattle.index.proofs.Bits.{and_both}
use Rattle.register.specs.declared.seen.Seen.{Seen}
use Rattle.register.proofs.Sorts.{Quiet, Sorts}
use Rattle.register.proofs.Turns.{Turn}
use Rattle.register.proofs.Runs.{lies, beside-x-quiet, beside-y-quiet}

module _ (s : Store) (i : Index) (indexed : Indexed s.sx.now s.sy.now s.runs.list.now i) (r : Point) where
  pub far-quiet : (d : ℕ) → d < 64 → (within i.x.bounds d r.x && within i.y.bounds d r.y) ≡ false → Quiet (lies s r d)
  far-quiet d few e = go (within i.x.bounds d r.x) refl
    where
      go : (t : Bool) → within i.x.bounds d r.x ≡ t → Quiet (lies s r d)
      go false f = beside-x-quiet s r d few (λ u. indexed.across.outside d r.x few u f)
      go true f = beside-y-quiet s r d few (λ u. indexed.up.outside d r.y few u (sym (ap (λ t. t && within i.y.bounds d r.y) f) ∙ e))

  pub unlisted-quiet : (d : ℕ) → d < 64 → bit (bit_and (listed i.x.masks i.x.axis r.x) (listed i.y.masks i.y.axis r.y)) d ≡ false → Quiet (lies s r d)
  unlisted-quiet d few e = go (bit (listed i.x.masks i.x.axis r.x) d) (bit (listed i.y.masks i.y.axis r.y) d) refl refl
    where
      go : (a b : Bool) → bit (listed i.x.masks i.x.axis r.x) d ≡ a → bit (listed i.y.masks i.y.axis r.y) d ≡ b → Quiet (lies s r d)
      go false b f g = beside-x-quiet s r d few (λ u. indexed.across.unlisted d r.x few u f)
      go true false f g = beside-y-quiet s r d few (λ u. indexed.up.unlisted d r.y few u g)
      go true true f g = absurd (true≢false (sym (and_both (listed i.x.masks i.x.axis r.x) (listed i.y.masks i.y.axis r.y) d f g) ∙ e))

  -- before the first turn of a loop over the numbers that it lists
  pub first-turn : (mask : ℕ) (seen : Seen) → mask ≡ bit_and (listed i.x.masks i.x.axis r.x) (listed i.y.masks i.y.axis r.y) → Sorts (lies s r) 0 seen → Turn (lies s r) mask seen
  first-turn mask seen e l = record { next = 0; below = l; gone = λ d h. absurd (omega arith); none = λ d h few n. unlisted-quiet d few (sym (ap (λ m. bit m d) e) ∙ ap (λ n. eqb n 1) n) }
