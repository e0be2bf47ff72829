-- Sums over a list of slots when one slot is exchanged. Assumes nothing.
use Prim.Native.Nat.{ℕ, zero, suc, ◌<◌}
use native.Mathlib.Omega.{arith}
use mathlib.Core.Path.{◌≡◌, refl, sym, ap, ◌∙◌}
use mathlib.Core.List.{List, [], ◌∷◌}
use lib.IntN.{ℤ, pos, ◌+ℤ◌, +ℤ_assoc, +ℤ_comm}
use lib.ListN.{length, get_or, set, length-set}
use lib.Seq.{get_or-set_other}
use Rattle.exact.proofs.Parts.{up, down, parts_add, by_parts}
use Rattle.districts.specs.Counts.{list_to}
use Rattle.districts.specs.Register.{Slot, unused}
use Rattle.history.specs.Adding.{sum_over}

module _ (f : Slot → ℤ) where
  -- the old slot's part goes, the new one's comes
  pub set_sum : (l : List Slot) (d : ℕ) (s : Slot) → d < length l → sum_over f (set l d s) +ℤ f (get_or l d unused) ≡ sum_over f l +ℤ f s
  unfolding sum_over
  set_sum [] d s h = absurd (let none : ⊥ = omega arith in none)
  set_sum (x ∷ l) zero s h = +ℤ_comm (f s +ℤ sum_over f l) (f x) ∙ ap (λ z. f x +ℤ z) (+ℤ_comm (f s) (sum_over f l)) ∙ sym (+ℤ_assoc (f x) (sum_over f l) (f s))
  set_sum (x ∷ l) (suc d) s h =
      +ℤ_assoc (f x) (sum_over f (set l d s)) (f (get_or l d unused))
      ∙ ap (λ z. f x +ℤ z) (set_sum l d s (omega arith))
      ∙ sym (+ℤ_assoc (f x) (sum_over f l) (f s))

  -- unused slots add nothing
  pub sum-none : f unused ≡ pos 0 → (n : ℕ) (g : ℕ → Slot) → ((i : ℕ) → i < n → g i ≡ unused) → sum_over f (list_to n g) ≡ pos 0
  unfolding sum_over list_to
  sum-none e zero g h = refl
  sum-none e (suc n) g h = λ t. (ap f (h 0 (omega arith)) ∙ e) t +ℤ sum-none e n (λ i. g (suc i)) (λ i k. h (suc i) (omega arith)) t

  -- two different slots are exchanged, and the four parts cancel
  pub two-set : (l : List Slot) (d e : ℕ) (s t : Slot) → d < length l → e < length l → (e ≡ d → ⊥)
      → f s +ℤ f t ≡ f (get_or l d unused) +ℤ f (get_or l e unused) → sum_over f (set (set l d s) e t) ≡ sum_over f l
  two-set l d e s t h k other same =
      let S = sum_over f l in
      let S₁ = sum_over f (set l d s) in
      let S₂ = sum_over f (set (set l d s) e t) in
      let p = f (get_or l d unused) in
      let q = f (get_or l e unused) in
      let one : S₁ +ℤ p ≡ S +ℤ f s = set_sum l d s h in
      let two : S₂ +ℤ q ≡ S₁ +ℤ f t =
      ap (λ u. S₂ +ℤ f u) (sym (get_or-set_other l d e s unused other)) ∙ set_sum (set l d s) e t (omega (arith, k, length-set l d s)) in
      by_parts S₂ S (omega (
        arith,
        ap up one,
        ap down one,
        ap up two,
        ap down two,
        ap up same,
        ap down same,
        parts_add S₁ p,
        parts_add S (f s),
        parts_add S₂ q,
        parts_add S₁ (f t),
        parts_add (f s) (f t),
        parts_add p q,
      ))
