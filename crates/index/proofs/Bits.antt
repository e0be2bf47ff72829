-- Bits of masks: of one that is given a bit, of what two share, and the lowest bit of a mask whose lower ones were shifted out. Assumes nothing.
use Prim.Native.Nat.{ℕ, zero, suc, ◌+◌, ◌-◌, ◌*◌, ◌/◌, ◌%◌, ◌^◌, ◌≤◌, ◌<◌}
use native.Mathlib.Decide.{dec_lt}
use native.Mathlib.Nat.{mod-lt, div-one, zero-div, div-add-mod', lt_of_lt_of_le}
use native.Mathlib.Omega.{arith}
use mathlib.Core.Path.{◌≡◌, refl, sym, ap, subst, ◌∙◌}
use mathlib.Core.Bool.{true, false}
use lib.Dec.{eqb}
use lib.Bits.{bit_and, bit_or}
use lib.Count.{count_trailing_zeros, under}
use lib.Pow.{pow_mono, shr_lt, shr-shr}
use mir.Syntax.{w64}
use borrow.Author.Tests.{eqb-true, eq-eqb}
use Rattle.std.specs.Int.{bit_at}
use Rattle.std.proofs.lemmas.Nat.Bits.{bit_at-lt, bit_at_and, bit_at_or, bit_at_set_same}
use Rattle.index.specs.Axis.{bit}

one : (a d : ℕ) → bit a d ≡ true → bit_at a d ≡ 1
one a d e = eqb-true (bit_at a d) 1 e

pub and_both : (a b d : ℕ) → bit a d ≡ true → bit b d ≡ true → bit (bit_and a b) d ≡ true
and_both a b d e f = eq-eqb _ 1 (omega (arith, bit_at_and a b d, one a d e, one b d f))

-- a mask that is given bit d has it, and the bits that it had
pub set_adds : (a d : ℕ) → d < 64 → bit (bit_or a (1 * 2 ^ d % 2 ^ 64)) d ≡ true
set_adds a d h = eq-eqb _ 1 (bit_at_set_same w64 a d h)

pub set_keeps : (a d e : ℕ) → bit a e ≡ true → bit (bit_or a (1 * 2 ^ d % 2 ^ 64)) e ≡ true
set_keeps a d e h = eq-eqb _ 1 (omega (arith, bit_at_or a (1 * 2 ^ d % 2 ^ 64) e, one a e h, bit_at-lt (1 * 2 ^ d % 2 ^ 64) e))

-- ---- the lowest bit of a number that is not 0, of any width

halved : (n e : ℕ) → n / 2 / 2 ^ e ≡ n / 2 ^ suc e
halved n e = shr-shr n 1 e ∙ ap (λ k. n / 2 ^ k) (let z : 1 + e ≡ suc e = omega arith in z)

pub record Lowest (n t : ℕ) : Type 0 where
  pub set : n / 2 ^ t % 2 ≡ 1
  pub clear : (e : ℕ) → e < t → n / 2 ^ e % 2 ≡ 0

pub lowest-bit : (k n : ℕ) → 0 < n → n < 2 ^ k → Lowest n (count_trailing_zeros k n)
unfolding count_trailing_zeros
lowest-bit zero n some h = absurd (let f : ⊥ = omega arith in f)
lowest-bit (suc k) n some h = go (n % 2) refl (mod-lt n (omega arith)) (lowest-bit k (n / 2))
  where
    go : (b : ℕ) → n % 2 ≡ b → b < 2 → (0 < n / 2 → n / 2 < 2 ^ k → Lowest (n / 2) (count_trailing_zeros k (n / 2))) → Lowest n (under b (count_trailing_zeros k (n / 2)))
    go zero e l rest =
        let twice : n / 2 * 2 + n % 2 ≡ n = div-add-mod' n 2 in
        let low = rest (omega arith) (shr_lt k 1 (subst (λ x. n < 2 ^ x) (let z : suc k ≡ k + 1 = omega arith in z) h)) in
        record { set = ap (λ m. m % 2) (sym (halved n (count_trailing_zeros k (n / 2)))) ∙ low.set; clear = λ j g. first j g low }
      where
        first : (j : ℕ) → j < suc (count_trailing_zeros k (n / 2)) → Lowest (n / 2) (count_trailing_zeros k (n / 2)) → n / 2 ^ j % 2 ≡ 0
        first zero g low = ap (λ m. m % 2) (div-one n) ∙ e
        first (suc j) g low = ap (λ m. m % 2) (sym (halved n j)) ∙ low.clear j (omega arith)
    go (suc b) e l rest = record { set = ap (λ m. m % 2) (div-one n) ∙ e ∙ (let z : suc b ≡ 1 = omega arith in z); clear = λ j g. absurd (let f : ⊥ = omega arith in f) }

-- ---- a mask of 64 bits whose bits below d were shifted out

module _ (m d left : ℕ) (few : m < 2 ^ 64) (is : left ≡ m / 2 ^ d) where
  -- bit e of the mask, where e is d at least
  shifted : (e : ℕ) → d ≤ e → m / 2 ^ e % 2 ≡ left / 2 ^ (e - d) % 2
  shifted e h = ap (λ n. n % 2) (ap (λ k. m / 2 ^ k) (let z : e ≡ d + (e - d) = omega arith in z) ∙ sym (shr-shr m d (e - d)) ∙ ap (λ n. n / 2 ^ (e - d)) (sym is))

  no-bit : (e : ℕ) → m / 2 ^ e % 2 ≡ 0 → bit m e ≡ false
  no-bit e z = ap (λ n. eqb n 1) z

  pub none_left : left ≡ 0 → (e : ℕ) → d ≤ e → bit m e ≡ false
  none_left z e h = no-bit e (shifted e h ∙ ap (λ n. n / 2 ^ (e - d) % 2) z ∙ ap (λ n. n % 2) (zero-div (2 ^ (e - d))))

  module _ (low : d ≤ 64) (some : 0 < left) where
    abbrev t : ℕ
    t = count_trailing_zeros 64 left

    short : left < 2 ^ (64 - d)
    short = subst (λ n. n < 2 ^ (64 - d)) (sym is) (shr_lt (64 - d) d (subst (λ k. m < 2 ^ k) (let z : 64 ≡ 64 - d + d = omega arith in z) few))

    lowest : Lowest left t
    lowest = lowest-bit 64 left some (lt_of_lt_of_le short (pow_mono (let z : 64 - d ≤ 64 = omega arith in z)))

    pub next_low : d + t < 64
    next_low = elim (dec_lt t (64 - d)) [
      | yes l ↦ omega arith
      | no l ↦
          let none : left / 2 ^ t < 2 ^ 0 = shr_lt 0 t (lt_of_lt_of_le short (pow_mono (let z : 64 - d ≤ 0 + t = omega arith in z))) in
          let zero : left / 2 ^ t ≡ 0 = omega arith in
          absurd (let f : ⊥ = omega (arith, lowest.set, ap (λ n. n % 2) zero) in f)
    ]

    pub none_between : (e : ℕ) → d ≤ e → e < d + t → bit m e ≡ false
    none_between e h k = no-bit e (shifted e h ∙ lowest.clear (e - d) (omega arith))

    pub next-left : left / 2 ^ t / 2 ^ 1 ≡ m / 2 ^ (d + t + 1)
    next-left = shr-shr left t 1 ∙ ap (λ n. n / 2 ^ (t + 1)) is ∙ shr-shr m d (t + 1) ∙ ap (λ k. m / 2 ^ k) (let z : d + (t + 1) ≡ d + t + 1 = omega arith in z)
