-- A double by the fields of its bits: whether it is finite, and its size in millimetres, as the crate's functions compute it. Assumes nothing.
use Prim.Native.Nat.{ℕ, zero, suc, ◌+◌, ◌-◌, ◌*◌, ◌/◌, ◌%◌, ◌^◌, ◌≤◌, ◌<◌}
use native.Mathlib.Decide.{dec_lt}
use native.Mathlib.Nat.{mul-one, mod-lt}
use native.Mathlib.Omega.{arith}
use mathlib.Core.Path.{◌≡◌, refl, sym, ap, ◌∙◌, subst}
use mathlib.Core.Logic.{◌⊎◌, inl, inr}
use mathlib.Core.Bool.{Bool, true, false, not, cond, or-false}
use lib.Dec.{T, leb, ltb, eqb, lit≤, leb-suc-suc}
use lib.Pow.{pow-add, pow_pos, pow_mono}
use lib.Ieee.{Float, nan, inf, fin, up, down, binary64, odd, of_fields, of_bits, to_bits, fits, is_nan}
use lib.Ieee.Bits.{of_bits-to_bits}
use lib.Ieee.Exact.{HasValue, odd_sign}
use lib.Ieee.Fits.{down_pos}
use borrow.Author.Tests.{ltb-false, ne_eqb, le-leb, lt-leb, lt-ltb}
use Rattle.std.specs.Float.{float_is_finite}
use Rattle.ring.specs.Grid.{beyond}
use Rattle.ring.proofs.Pick.{pick_true, pick-false}
use Rattle.fixes.specs.Nearest.{with_sign, finite, in_metre}
use Rattle.fixes.specs.Millimetres.{rounded, millimetres, size_of, StandsFor}
use Rattle.fixes.proofs.Closest.{rounded-same, at_least, at_most}

-- ---- which doubles are finite; the bits of a NaN are not to be asked for

pub is_finite-finite : (x : Float) → float_is_finite x ≡ finite x
unfolding float_is_finite
is_finite-finite nan = refl
is_finite-finite (inf s) = refl
is_finite-finite (fin s m k) = refl

pub finite-not-nan : (x : Float) → finite x ≡ true → T (not (is_nan x))
unfolding is_nan
finite-not-nan nan e = subst T (sym e) tt
finite-not-nan (inf s) e = tt
finite-not-nan (fin s m k) e = tt

-- ---- which value the bits stand for

abbrev pub negative : Float → Bool
negative x = leb (2 ^ 63) (to_bits binary64 x)

abbrev pub field : Float → ℕ
field x = to_bits binary64 x % 2 ^ 63 / 2 ^ 52

abbrev pub fraction : Float → ℕ
fraction x = to_bits binary64 x % 2 ^ 52

by-fields : (x : Float) → T (fits binary64 x) → x ≡ of_fields binary64 (negative x) (field x) (fraction x)
unfolding of_bits
by-fields x h = sym (of_bits-to_bits binary64 x h)

odd-finite : (d : ℕ) (s : Bool) (q k l : ℕ) → finite (odd d s q k l) ≡ true
unfolding odd
odd-finite d s zero k l = refl
odd-finite d s (suc q) k l = refl

-- the exponent's field of an infinity or a NaN is 2047
field-finite : (s : Bool) (f t : ℕ) → f < 2047 → finite (of_fields binary64 s f t) ≡ true
unfolding of_fields
field-finite s zero t h = odd-finite 53 s t 0 1074
field-finite s (suc k) t h = rw (ne_eqb (suc k) 2047 (omega arith)) (odd-finite 53 s (2 ^ 52 + t) k 1074)

field-infinite : (s : Bool) (t : ℕ) → finite (of_fields binary64 s 2047 t) ≡ false
unfolding of_fields
field-infinite s t = go (eqb t 0)
  where
    go : (b : Bool) → finite (cond b (inf s) nan) ≡ false
    go true = refl
    go false = refl

pub by_field : (x : Float) → T (fits binary64 x)
    → ((field x < 2047) × (finite x ≡ true)) ⊎ ((field x ≡ 2047) × (finite x ≡ false))
by_field x h = elim (dec_lt (field x) 2047) [
  | yes g ↦ inl (g, ap finite (by-fields x h) ∙ field-finite (negative x) (field x) (fraction x) g)
  | no g ↦
      let top : field x ≡ 2047 = omega arith in
      inr (top, ap finite (by-fields x h) ∙ ap (λ f. finite (of_fields binary64 (negative x) f (fraction x))) top ∙ field-infinite (negative x) (fraction x))
]

-- a double that is a / c metres in size
value-is : (x : Float) (s : Bool) (a c : ℕ) → 0 < c → HasValue x s a c → millimetres x ≡ with_sign s (rounded (in_metre * a) c)
value-is nan s a c h v = absurd v
value-is (inf t) s a c h v = absurd v
value-is (fin t m e) s a c h v =
    let w = v.1 in
    ap (λ u. with_sign u (rounded (in_metre * m * up e) (down e))) v.0
    ∙ ap (with_sign s) (rounded-same (in_metre * m * up e) (down e) (in_metre * a) c (omega arith) (down_pos e) h)

-- ---- its size in millimetres

-- 2 ^ 20 metres: the largest size that the code computes, and the least of a far value
abbrev pub bound : ℕ
bound = 1_048_576_000

-- the code divides by the least power of two that will do
shortened : (q k l : ℕ) → k ≤ l → rounded (in_metre * (q * 2 ^ k)) (2 ^ l) ≡ rounded (in_metre * q) (2 ^ (l - k))
shortened q k l h =
    let power : 2 ^ l ≡ 2 ^ k * 2 ^ (l - k) = ap (λ n. 2 ^ n) (omega arith) ∙ pow-add 2 k (l - k) in
    let times : q * 2 ^ l ≡ q * (2 ^ k * 2 ^ (l - k)) = ap (λ n. q * n) power in
    rounded-same (in_metre * (q * 2 ^ k)) (2 ^ l) (in_metre * q) (2 ^ (l - k)) (omega arith) (pow_pos l) (pow_pos (l - k))

-- with l = 1074: a field from 1043 on, k being one less
far : (t k l : ℕ) → l ≤ k + 32 → bound ≤ rounded (in_metre * ((2 ^ 52 + t) * 2 ^ k)) (2 ^ l)
far t k l h =
    let powers : 2 ^ (l + 20) ≤ 2 ^ (k + 52) = pow_mono (omega arith) in
    let e : 2 ^ l * 2 ^ 20 ≤ 2 ^ k * 2 ^ 52 = rw (← pow-add 2 l 20, ← pow-add 2 k 52) powers in
    at_least (in_metre * ((2 ^ 52 + t) * 2 ^ k)) (2 ^ l) bound (pow_pos l) (omega arith)

-- and a field below 1043
few : (q j : ℕ) → q ≤ 2 ^ 53 → 33 ≤ j → rounded (in_metre * q) (2 ^ j) ≤ bound
few q j h g =
    let e : 2 ^ 33 ≤ 2 ^ j = pow_mono g in
    at_most (in_metre * q) (2 ^ j) bound (pow_pos j) (omega arith)

-- the size without the short way for far values
abbrev exact_size : ℕ → ℕ → ℕ
exact_size zero t = rounded (in_metre * (t * 2 ^ 0)) (2 ^ 1074)
exact_size (suc k) t = rounded (in_metre * ((2 ^ 52 + t) * 2 ^ k)) (2 ^ 1074)

size_is : (s : Bool) (f t : ℕ) → f < 2047 → millimetres (of_fields binary64 s f t) ≡ with_sign s (exact_size f t)
unfolding of_fields
size_is s zero t h = value-is (odd 53 s t 0 1074) s (t * 2 ^ 0) (2 ^ 1074) (pow_pos 1074) (odd_sign 53 s t 0 1074)
size_is s (suc k) t h =
    rw (ne_eqb (suc k) 2047 (omega arith))
    (value-is (odd 53 s (2 ^ 52 + t) k 1074) s ((2 ^ 52 + t) * 2 ^ k) (2 ^ 1074) (pow_pos 1074) (odd_sign 53 s (2 ^ 52 + t) k 1074))

-- the code's size n against the exact one: they are the same, or both beyond the grid
record Alike (n r : ℕ) : Type 0 where
  within : n ≤ bound
  beyond-both : ltb 1_000_000_000 n ≡ ltb 1_000_000_000 r
  same : ltb 1_000_000_000 r ≡ false → n ≡ r

alike_same : (n p r : ℕ) → n ≡ p → r ≡ p → p ≤ bound → Alike n r
alike_same n p r e g h = record { within = omega arith; beyond-both = ap (ltb 1_000_000_000) (e ∙ sym g); same = λ _. e ∙ sym g }

alike-beyond : (n r : ℕ) → n ≡ 1_000_000_001 → bound ≤ r → Alike n r
alike-beyond n r e h = record {
  within = omega arith;
  beyond-both = ap (ltb 1_000_000_000) e ∙ sym (lt-ltb 1_000_000_000 r (omega arith));
  same = λ g. omega (arith, ltb-false 1_000_000_000 r g);
}

alike-near : (f t : ℕ) → t < 2 ^ 52 → f < 1043 → Alike (size_of f t) (exact_size f t)
alike-near zero t h g =
    alike_same (size_of 0 t) (rounded (in_metre * t) (2 ^ 1074)) (exact_size 0 t)
    refl
    (ap (λ q. rounded (in_metre * q) (2 ^ 1074)) (mul-one t))
    (few t 1074 (omega arith) (lit≤ tt))
alike-near (suc k) t h g =
    alike_same (size_of (suc k) t) (rounded (in_metre * (2 ^ 52 + t)) (2 ^ (1075 - suc k))) (exact_size (suc k) t)
    (pick-false (lt-leb 1043 (suc k) g) _ _ ∙ pick-false (ne_eqb (suc k) 0 (omega arith)) _ _)
    (shortened (2 ^ 52 + t) k 1074 (omega arith) ∙ ap (λ j. rounded (in_metre * (2 ^ 52 + t)) (2 ^ j)) (omega arith))
    (few (2 ^ 52 + t) (1075 - suc k) (omega arith) (omega arith))

alike-far : (f t : ℕ) → 1043 ≤ f → Alike (size_of f t) (exact_size f t)
alike-far zero t g = absurd (let h : ⊥ = omega arith in h)
alike-far (suc k) t g = alike-beyond (size_of (suc k) t) (exact_size (suc k) t) (pick_true (le-leb 1043 (suc k) g) _ _) (far t k 1074 (omega arith))

alike : (f t : ℕ) → t < 2 ^ 52 → Alike (size_of f t) (exact_size f t)
alike f t h = elim (dec_lt f 1043) [ yes g ↦ alike-near f t h g | no g ↦ alike-far f t (omega arith) ]

-- a coordinate is beyond the grid by its size alone
beyond-size : (s : Bool) (n : ℕ) → beyond (with_sign s n) ≡ ltb 1_000_000_000 n
beyond-size false n = refl
beyond-size true zero = refl
beyond-size true (suc n) = or-false (ltb 999_999_999 n) ∙ sym (leb-suc-suc 1_000_000_000 n)

stands-fields : (s : Bool) (f t : ℕ) → t < 2 ^ 52 → f < 2047 → StandsFor (with_sign s (size_of f t)) (of_fields binary64 s f t)
stands-fields s f t h g =
    let a = alike f t h in
    let e = size_is s f t g in
    let exact : beyond (millimetres (of_fields binary64 s f t)) ≡ ltb 1_000_000_000 (exact_size f t) = ap beyond e ∙ beyond-size s (exact_size f t) in
    record {
      far = beyond-size s (size_of f t) ∙ a.beyond-both ∙ sym exact;
      near = λ b. ap (with_sign s) (a.same (sym exact ∙ b)) ∙ sym e;
    }

-- ---- what the proof of `nearest` asks

pub size-within : (x : Float) → size_of (field x) (fraction x) ≤ bound
size-within x = (alike (field x) (fraction x) (mod-lt (to_bits binary64 x) (pow_pos 52))).within

pub stands : (x : Float) → T (fits binary64 x) → finite x ≡ true → StandsFor (with_sign (negative x) (size_of (field x) (fraction x))) x
stands x h e = elim (by_field x h) [
  | inl g ↦
      subst (StandsFor (with_sign (negative x) (size_of (field x) (fraction x)))) (sym (by-fields x h))
      (stands-fields (negative x) (field x) (fraction x) (mod-lt (to_bits binary64 x) (pow_pos 52)) g.0)
  | inr g ↦ absurd (subst T (sym e ∙ g.1) tt)
]
