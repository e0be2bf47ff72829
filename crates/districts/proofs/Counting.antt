-- Tests and sums over the numbers below a bound: the steps that a loop takes. Assumes nothing.
use Prim.Native.Nat.{ℕ, zero, suc, ◌+◌, ◌≤◌, ◌<◌}
use native.Mathlib.Numerals.{add-one}
use native.Mathlib.Decide.{dec_lt, ℕ_discrete}
use native.Mathlib.Omega.{arith}
use mathlib.Core.Path.{◌≡◌, refl, sym, ap, subst, ◌∙◌}
use mathlib.Core.Bool.{Bool, true, ◌&&◌, and-true}
use Rattle.districts.proofs.Tests.{both_left, both_right}
use Rattle.districts.specs.Counts.{all_to, sum_to}

pub all_none : (p : ℕ → Bool) → true ≡ all_to 0 p
unfolding all_to
all_none p = refl

pub all_more : (p : ℕ → Bool) (n : ℕ) (good b : Bool) → good ≡ all_to n p → b ≡ p n → (good && b) ≡ all_to (n + 1) p
unfolding all_to
all_more p n good b e f = (λ i. e i && f i) ∙ ap (λ k. all_to k p) (sym (add-one n))

-- a test that passes everywhere
pub all_pass : (p : ℕ → Bool) (n : ℕ) → ((k : ℕ) → k < n → p k ≡ true) → all_to n p ≡ true
unfolding all_to
all_pass p zero f = refl
all_pass p (suc n) f = (λ i. all_pass p n (λ k h. f k (omega arith)) i && f n (omega arith) i)

-- what a test of all tells of each
pub all-each : (p : ℕ → Bool) (n : ℕ) → all_to n p ≡ true → (k : ℕ) → k < n → p k ≡ true
unfolding all_to
all-each p zero e k h = absurd (let f : ⊥ = omega arith in f)
all-each p (suc n) e k h = elim (ℕ_discrete k n) [ yes same ↦ ap p same ∙ both_right (all_to n p) (p n) e | no other ↦ all-each p n (both_left (all_to n p) (p n) e) k (omega arith) ]

pub sum-none : (f : ℕ → ℕ) → 0 ≡ sum_to 0 f
unfolding sum_to
sum-none f = refl

pub sum_more : (f : ℕ → ℕ) (n s k : ℕ) → s ≡ sum_to n f → k ≡ f n → s + k ≡ sum_to (n + 1) f
unfolding sum_to
sum_more f n s k e d = (λ i. e i + d i) ∙ ap (λ m. sum_to m f) (sym (add-one n))

sum-grows : (f : ℕ → ℕ) (d n : ℕ) → d ≤ n → sum_to d f ≤ sum_to n f
unfolding sum_to
sum-grows f d zero h = let same : d ≡ 0 = omega arith in subst (λ (m : ℕ). sum_to m f ≤ 0) (sym same) (omega arith)
sum-grows f d (suc n) h = elim (ℕ_discrete d (suc n)) [
  | yes same ↦ subst (λ (m : ℕ). sum_to m f ≤ sum_to n f + f n) (sym same) (omega arith)
  | no other ↦ let t : sum_to d f ≤ sum_to n f = sum-grows f d n (omega arith) in omega arith
]

-- a term is at most the sum
pub term-most : (f : ℕ → ℕ) (n k : ℕ) → k < n → f k ≤ sum_to n f
unfolding sum_to
term-most f zero k h = absurd (let g : ⊥ = omega arith in g)
term-most f (suc n) k h = elim (ℕ_discrete k n) [
  | yes same ↦ subst (λ (m : ℕ). f m ≤ sum_to n f + f n) (sym same) (omega arith)
  | no other ↦ let t : f k ≤ sum_to n f = term-most f n k (omega arith) in omega arith
]

-- what comes after the first d terms is in the sum beside them
pub term-past : (f : ℕ → ℕ) (n d k : ℕ) → d ≤ k → k < n → sum_to d f + f k ≤ sum_to n f
unfolding sum_to
term-past f zero d k h l = absurd (let g : ⊥ = omega arith in g)
term-past f (suc n) d k h l = elim (ℕ_discrete k n) [
  | yes same ↦ subst (λ (m : ℕ). sum_to d f + f m ≤ sum_to n f + f n) (sym same) (let t : sum_to d f ≤ sum_to n f = sum-grows f d n (omega arith) in omega arith)
  | no other ↦ let t : sum_to d f + f k ≤ sum_to n f = term-past f n d k h (omega arith) in omega arith
]

-- ---- a loop that adds up terms and stops once it has them all: s is the sum of the first d

-- with the term at d it has at most all
pub sum-with : (f : ℕ → ℕ) (n d s k : ℕ) → s ≡ sum_to d f → d < n → k ≡ f d → s + k ≤ sum_to n f
sum-with f n d s k e h t = let past : sum_to d f + f d ≤ sum_to n f = term-past f n d d (omega arith) h in omega arith

-- as long as s is less there is a term left
pub term-left : (f : ℕ → ℕ) (n d s : ℕ) → s ≡ sum_to d f → d ≤ n → s < sum_to n f → d < n
term-left f n d s e h l = elim (dec_lt d n) [
  | yes less ↦ less
  | no more ↦
      let last : d ≡ n = omega arith in
      let all : sum_to d f ≡ sum_to n f = ap (λ m. sum_to m f) last in
      absurd (let g : ⊥ = omega arith in g)
]

-- after that the terms left are 0
pub rest-none : (f : ℕ → ℕ) (n d s : ℕ) → s ≡ sum_to d f → sum_to n f ≤ s → (k : ℕ) → d ≤ k → k < n → f k ≡ 0
rest-none f n d s e h k l m = let past : sum_to d f + f k ≤ sum_to n f = term-past f n d k l m in omega arith

-- and a test that passes at them passes at all if it did before
pub all_rest : (p : ℕ → Bool) (n d : ℕ) → d ≤ n → ((k : ℕ) → d ≤ k → k < n → p k ≡ true) → all_to d p ≡ all_to n p
unfolding all_to
all_rest p zero d h rest = ap (λ m. all_to m p) (let e : d ≡ 0 = omega arith in e)
all_rest p (suc n) d h rest = elim (ℕ_discrete d (suc n)) [
  | yes same ↦ ap (λ m. all_to m p) same
  | no other ↦ all_rest p n d (omega arith) (λ k l m. rest k l (omega arith)) ∙ sym ((λ i. all_to n p && rest n (omega arith) (omega arith) i) ∙ and-true (all_to n p))
]
