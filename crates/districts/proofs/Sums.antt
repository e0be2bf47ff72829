-- Sums over the numbers below a bound, compared by their terms. Assumes nothing.
use Prim.Native.Nat.{ℕ, zero, suc, ◌+◌, ◌≤◌, ◌<◌}
use native.Mathlib.Decide.{dec_lt, ℕ_discrete}
use native.Mathlib.Omega.{arith}
use mathlib.Core.Path.{◌≡◌, refl, sym, ap, ◌∙◌}
use lib.Dec.{eqb}
use borrow.Author.Tests.{eq-eqb, ne_eqb}
use Rattle.ring.specs.Choices.{pick}
use Rattle.ring.proofs.Pick.{pick_true, pick-false}
use Rattle.districts.specs.Counts.{sum_to}

pub sum_same : (f g : ℕ → ℕ) (n : ℕ) → ((k : ℕ) → k < n → f k ≡ g k) → sum_to n f ≡ sum_to n g
unfolding sum_to
sum_same f g zero e = refl
sum_same f g (suc n) e = λ i. sum_same f g n (λ k h. e k (omega arith)) i + e n (omega arith) i

pub sum-zero : (f : ℕ → ℕ) (n : ℕ) → ((k : ℕ) → k < n → f k ≡ 0) → sum_to n f ≡ 0
unfolding sum_to
sum-zero f zero e = refl
sum-zero f (suc n) e = λ i. sum-zero f n (λ k h. e k (omega arith)) i + e n (omega arith) i

pub sum-plus : (f g h : ℕ → ℕ) (n : ℕ) → ((k : ℕ) → k < n → h k ≡ f k + g k) → sum_to n h ≡ sum_to n f + sum_to n g
unfolding sum_to
sum-plus f g h zero e = refl
sum-plus f g h (suc n) e =
    let before : sum_to n h ≡ sum_to n f + sum_to n g = sum-plus f g h n (λ k l. e k (omega arith)) in
    let last : h n ≡ f n + g n = e n (omega arith) in
    omega arith

pub sum-most : (f g : ℕ → ℕ) (n : ℕ) → ((k : ℕ) → k < n → f k ≤ g k) → sum_to n f ≤ sum_to n g
unfolding sum_to
sum-most f g zero e = omega arith
sum-most f g (suc n) e =
    let before : sum_to n f ≤ sum_to n g = sum-most f g n (λ k l. e k (omega arith)) in
    let last : f n ≤ g n = e n (omega arith) in
    omega arith

-- where no term is greater, and the sums are the same, the terms are
pub same-terms : (f g : ℕ → ℕ) (n : ℕ) → ((k : ℕ) → k < n → f k ≤ g k) → sum_to n f ≡ sum_to n g → (k : ℕ) → k < n → f k ≡ g k
unfolding sum_to
same-terms f g zero e s k h = absurd (let l : ⊥ = omega arith in l)
same-terms f g (suc n) e s k h =
    let before : sum_to n f ≤ sum_to n g = sum-most f g n (λ k l. e k (omega arith)) in
    let last : f n ≤ g n = e n (omega arith) in
    elim (ℕ_discrete k n) [
      | yes same ↦ let l : f n ≡ g n = omega arith in ap f same ∙ l ∙ sym (ap g same)
      | no other ↦ same-terms f g n (λ k l. e k (omega arith)) (omega arith) k (omega arith)
    ]

-- a sum that is not 0 has a term that is not
pub some-term : (f : ℕ → ℕ) (n : ℕ) → 0 < sum_to n f → (k : ℕ) × (k < n) × (0 < f k)
unfolding sum_to
some-term f zero h = absurd (let l : ⊥ = omega arith in l)
some-term f (suc n) h = elim (dec_lt 0 (f n)) [
  | yes u ↦ (n, omega arith, u)
  | no u ↦ let s = some-term f n (omega arith) in let l = s.1 in (s.0, omega arith, s.2)
]

-- terms of at most 1, no two of them 1
pub one_at_most : (f : ℕ → ℕ) (n : ℕ) → ((k : ℕ) → k < n → f k ≤ 1) → ((j k : ℕ) → j < k → k < n → 0 < f j → 0 < f k → ⊥) → sum_to n f ≤ 1
unfolding sum_to
one_at_most f zero e d = omega arith
one_at_most f (suc n) e d = elim (dec_lt 0 (f n)) [
  | yes u ↦
      let before : sum_to n f ≡ 0 = sum-zero f n (λ k h. none k h u) in
      let last : f n ≤ 1 = e n (omega arith) in
      omega arith
  | no u ↦ let before : sum_to n f ≤ 1 = one_at_most f n (λ k h. e k (omega arith)) (λ j k h l. d j k h (omega arith)) in omega arith
]
  where
    none : (k : ℕ) → k < n → 0 < f n → f k ≡ 0
    none k h u = elim (dec_lt 0 (f k)) [ yes v ↦ absurd (d k n h (omega arith) v u) | no v ↦ omega arith ]

-- ---- one term exchanged

abbrev pub put : (ℕ → ℕ) → ℕ → ℕ → ℕ → ℕ
put f at v k = pick (eqb k at) v (f k)

pub put_same : (f : ℕ → ℕ) (at v k : ℕ) → k ≡ at → put f at v k ≡ v
put_same f at v k e = pick_true (eq-eqb k at e) _ _

pub put_other : (f : ℕ → ℕ) (at v k : ℕ) → (k ≡ at → ⊥) → put f at v k ≡ f k
put_other f at v k e = pick-false (ne_eqb k at e) _ _

pub sum-put : (f : ℕ → ℕ) (at v n : ℕ) → at < n → sum_to n (put f at v) + f at ≡ sum_to n f + v
unfolding sum_to
sum-put f at v zero h = absurd (let l : ⊥ = omega arith in l)
sum-put f at v (suc n) h = elim (ℕ_discrete n at) [
  | yes same ↦
      let before : sum_to n (put f at v) ≡ sum_to n f = sum_same (put f at v) f n (λ k l. put_other f at v k (λ e. omega arith)) in
      let last : put f at v n ≡ v = put_same f at v n same in
      let old : f n ≡ f at = ap f same in
      omega arith
  | no other ↦
      let before : sum_to n (put f at v) + f at ≡ sum_to n f + v = sum-put f at v n (omega arith) in
      let last : put f at v n ≡ f n = put_other f at v n other in
      omega arith
]
