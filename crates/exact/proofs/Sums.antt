-- The laws of the product of whole numbers that `lib.IntN` lacks: associative, distributive over sums, and with negation. Assumes nothing.
use Prim.Native.Nat.{ℕ, ◌*◌}
use native.Mathlib.Omega.{arith}
use mathlib.Core.Path.{◌≡◌, refl, sym, ap, ◌∙◌, subst}
use mathlib.Core.Logic.{◌⊎◌, inl, inr}
use lib.Dec.{T}
use lib.IntN.{ℤ, pos, neg_ℤ, ◌+ℤ◌, ◌*ℤ◌, +ℤ_assoc, +ℤ_comm, *ℤ_comm}
use Rattle.exact.specs.Sign.{Sign, minus, nought, plus, sign}
use Rattle.exact.proofs.Parts.{up, down, parts_add, parts-neg, parts-mul, by_parts}
use Rattle.exact.proofs.Signs.{times, is_nought, sign-mul, sign-nought}

pub *ℤ-+ℤ : (a b c : ℤ) → a *ℤ (b +ℤ c) ≡ a *ℤ b +ℤ a *ℤ c
*ℤ-+ℤ a b c = by_parts (a *ℤ (b +ℤ c)) (a *ℤ b +ℤ a *ℤ c) (omega (arith, parts-mul a (b +ℤ c), ap (λ (n : ℕ). up a * n) (parts_add b c), ap (λ (n : ℕ). down a * n) (parts_add b c), parts-mul a b, parts-mul a c, parts_add (a *ℤ b) (a *ℤ c)))

pub +ℤ-*ℤ : (a b c : ℤ) → (a +ℤ b) *ℤ c ≡ a *ℤ c +ℤ b *ℤ c
+ℤ-*ℤ a b c = *ℤ_comm (a +ℤ b) c ∙ *ℤ-+ℤ c a b ∙ (λ i. *ℤ_comm c a i +ℤ *ℤ_comm c b i)

pub *ℤ-assoc : (a b c : ℤ) → (a *ℤ b) *ℤ c ≡ a *ℤ (b *ℤ c)
*ℤ-assoc a b c = by_parts ((a *ℤ b) *ℤ c) (a *ℤ (b *ℤ c)) (omega (arith, parts-mul (a *ℤ b) c, ap (λ (n : ℕ). n * up c) (parts-mul a b), ap (λ (n : ℕ). n * down c) (parts-mul a b), parts-mul a (b *ℤ c), ap (λ (n : ℕ). up a * n) (parts-mul b c), ap (λ (n : ℕ). down a * n) (parts-mul b c)))

pub *ℤ-swap : (a b c : ℤ) → a *ℤ (b *ℤ c) ≡ b *ℤ (a *ℤ c)
*ℤ-swap a b c = sym (*ℤ-assoc a b c) ∙ ap (λ (z : ℤ). z *ℤ c) (*ℤ_comm a b) ∙ *ℤ-assoc b a c

pub +ℤ-swap : (a b c : ℤ) → a +ℤ (b +ℤ c) ≡ b +ℤ (a +ℤ c)
+ℤ-swap a b c = sym (+ℤ_assoc a b c) ∙ ap (λ (z : ℤ). z +ℤ c) (+ℤ_comm a b) ∙ +ℤ_assoc b a c

pub one-*ℤ : (a : ℤ) → pos 1 *ℤ a ≡ a
one-*ℤ a = by_parts (pos 1 *ℤ a) a (omega (arith, parts-mul (pos 1) a))

pub neg_ℤ-*ℤ : (a b : ℤ) → neg_ℤ a *ℤ b ≡ neg_ℤ (a *ℤ b)
neg_ℤ-*ℤ a b = by_parts (neg_ℤ a *ℤ b) (neg_ℤ (a *ℤ b)) (omega (arith, parts-mul (neg_ℤ a) b, ap (λ (n : ℕ). n * up b) (parts-neg a).0, ap (λ (n : ℕ). n * down b) (parts-neg a).0, ap (λ (n : ℕ). n * up b) (parts-neg a).1, ap (λ (n : ℕ). n * down b) (parts-neg a).1, parts-mul a b, parts-neg (a *ℤ b)))

pub *ℤ-neg_ℤ : (a b : ℤ) → a *ℤ neg_ℤ b ≡ neg_ℤ (a *ℤ b)
*ℤ-neg_ℤ a b = *ℤ_comm a (neg_ℤ b) ∙ neg_ℤ-*ℤ b a ∙ ap neg_ℤ (*ℤ_comm b a)

times-nought : (s t : Sign) → T (is_nought (times s t)) → (s ≡ nought) ⊎ (t ≡ nought)
times-nought minus minus h = absurd h
times-nought minus nought h = inr refl
times-nought minus plus h = absurd h
times-nought nought t h = inl refl
times-nought plus minus h = absurd h
times-nought plus nought h = inr refl
times-nought plus plus h = absurd h

pub *ℤ-zero-either : (x y : ℤ) → x *ℤ y ≡ pos 0 → (x ≡ pos 0) ⊎ (y ≡ pos 0)
*ℤ-zero-either x y e = either (times-nought (sign x) (sign y) (subst (λ (s : Sign). T (is_nought s)) (ap sign (sym e) ∙ sign-mul x y) tt))
  where
    either : (sign x ≡ nought) ⊎ (sign y ≡ nought) → (x ≡ pos 0) ⊎ (y ≡ pos 0)
    either (inl p) = inl (sign-nought x p)
    either (inr p) = inr (sign-nought y p)
