-- A quotient's nearest whole number, halves to even: there is one, `rounded` is it, and equal quotients have the same. A number is held as
-- a difference of two naturals, so that every law is one of ℕ. Assumes nothing.
use Prim.Native.Nat.{ℕ, suc, ◌+◌, ◌*◌, ◌/◌, ◌%◌, ◌≤◌, ◌<◌}
use native.Mathlib.Decide.{dec_lt, ℕ_discrete}
use native.Mathlib.Nat.{div-add-mod, mod-lt, mul-le-mul_left, le_of_mul-le-mul_left, eq_of_mul-eq-mul_left}
use native.Mathlib.Omega.{arith}
use mathlib.Core.Path.{◌≡◌, refl, ap}
use mathlib.Core.Bool.{Bool, true, false}
use lib.Dec.{ltb}
use borrow.Author.Tests.{ltb-true, ltb-false}
use Rattle.ring.specs.Choices.{pick}
use Rattle.fixes.specs.Millimetres.{rounded}

-- m - n is nearest to (u - v) / d
pub record Closest (u v d m n : ℕ) : Type 0 where
  pub above : 2 * (d * m + v) ≤ 2 * (d * n + u) + d
  pub below : 2 * (d * n + u) ≤ 2 * (d * m + v) + d
  pub even-above : 2 * (d * m + v) ≡ 2 * (d * n + u) + d → (m + n) % 2 ≡ 0
  pub even-below : 2 * (d * n + u) ≡ 2 * (d * m + v) + d → (m + n) % 2 ≡ 0

-- of two nearest, one is not below the other: they would be one apart, both at a half and both even
not-below : (u v d m n p q : ℕ) → 0 < d → Closest u v d m n → Closest u v d p q → m + q < p + n → ⊥
not-below u v d m n p q pos c e h =
    let a = c.below in
    let b = e.above in
    let wide : d * suc (m + q) ≤ d * (p + n) = mul-le-mul_left d h in
    let close : d * (p + n) ≤ d * suc (m + q) = omega arith in
    let next : p + n ≤ suc (m + q) = le_of_mul-le-mul_left close pos in
    let first : (m + n) % 2 ≡ 0 = c.even-below (omega arith) in
    let second : (p + q) % 2 ≡ 0 = e.even-above (omega arith) in
    omega arith

pub one-closest : (u v d m n p q : ℕ) → 0 < d → Closest u v d m n → Closest u v d p q → m + q ≡ p + n
one-closest u v d m n p q pos c e = elim (dec_lt (m + q) (p + n)) [
  | yes h ↦ absurd (not-below u v d m n p q pos c e h)
  | no h ↦ elim (dec_lt (p + n) (m + q)) [ yes k ↦ absurd (not-below u v d p q m n pos e c k) | no k ↦ omega arith ]
]

pub rounded-closest : (a d : ℕ) → 0 < d → Closest a 0 d (rounded a d) 0
rounded-closest a d h = go (ltb (2 * (a % d)) d) (ltb d (2 * (a % d))) refl refl
  where
    go : (b c : Bool) → ltb (2 * (a % d)) d ≡ b → ltb d (2 * (a % d)) ≡ c → Closest a 0 d (pick b (a / d) (pick c (suc (a / d)) (a / d + a / d % 2))) 0
    go true c e f = omega (arith, ltb-true (2 * (a % d)) d e, div-add-mod a d)
    go false true e f = omega (arith, ltb-true d (2 * (a % d)) f, div-add-mod a d, mod-lt a h)
    go false false e f =
        let half : 2 * (a % d) ≡ d = omega (arith, ltb-false (2 * (a % d)) d e, ltb-false d (2 * (a % d)) f) in
        let whole = div-add-mod a d in
        elim (ℕ_discrete (a / d % 2) 0) [
          | yes even ↦ let same : a / d + a / d % 2 ≡ a / d = omega arith in rw same (omega arith)
          | no odd ↦ let next : a / d + a / d % 2 ≡ suc (a / d) = omega arith in rw next (omega arith)
        ]

-- from one quotient to an equal one
carried : (a b c d n : ℕ) → a * d ≡ c * b → 0 < b → 0 < d → Closest a 0 b n 0 → Closest c 0 d n 0
carried a b c d n e hb hd k = record {
  above = le_of_mul-le-mul_left (let f = mul-le-mul_left d k.above in omega arith) hb;
  below = le_of_mul-le-mul_left (let f = mul-le-mul_left d k.below in omega arith) hb;
  even-above = λ g. k.even-above (eq_of_mul-eq-mul_left d hd _ _ (let f = ap (λ x. b * x) g in omega arith));
  even-below = λ g. k.even-below (eq_of_mul-eq-mul_left d hd _ _ (let f = ap (λ x. b * x) g in omega arith));
}

pub rounded-same : (a b c d : ℕ) → a * d ≡ c * b → 0 < b → 0 < d → rounded a b ≡ rounded c d
rounded-same a b c d e hb hd =
    let same = one-closest c 0 d (rounded a b) 0 (rounded c d) 0 hd (carried a b c d (rounded a b) e hb hd (rounded-closest a b hb)) (rounded-closest c d hd) in
    omega arith

-- ---- from a whole number on, and up to one
pub at_least : (a d k : ℕ) → 0 < d → k * d ≤ a → k ≤ rounded a d
at_least a d k h l =
    let c = rounded-closest a d h in
    let twice : d * (2 * k) ≤ d * (2 * rounded a d + 1) = omega (arith, c.below) in
    omega (arith, le_of_mul-le-mul_left twice h)

pub at_most : (a d k : ℕ) → 0 < d → a ≤ k * d → rounded a d ≤ k
at_most a d k h l =
    let c = rounded-closest a d h in
    let twice : d * (2 * rounded a d) ≤ d * (2 * k + 1) = omega (arith, c.above) in
    omega (arith, le_of_mul-le-mul_left twice h)
