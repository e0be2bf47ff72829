-- How large a whole number is, `nat_abs`, through sum, difference and product, and from it that a result fits a signed width.
-- `signed` is the ruleset for the needs of signed arithmetic: `search (needs, signed)`. Assumes nothing.
use Prim.Native.Nat.{ℕ, zero, suc, ◌+◌, ◌*◌, ◌/◌, ◌^◌, ◌≤◌, ◌<◌}
use native.Mathlib.Omega.{arith}
use native.Mathlib.Nat.{mul-le-mul, le_trans, le_of_eq, le_refl, add-le-add, lt_of_le_of_lt, div-le_self}
use mathlib.Core.Path.{◌≡◌, refl}
use lib.Dec.{T, leb, leb→le, ltb, ltb→lt}
use lib.IntN.{ℤ, pos, negsuc, neg_ℤ, nat_abs, sub_ℕ, ◌+ℤ◌, ◌-ℤ◌, ◌*ℤ◌}
use lib.Signed.{mag, quot_z, nat_abs-le}
use mir.Syntax.{Width, w32, w64}
use mir.Val.{SFits, hbits}
use Rattle.exact.proofs.Parts.{sub_ℕ-cases}

pub nat_abs-neg : (z : ℤ) → nat_abs (neg_ℤ z) ≡ nat_abs z
nat_abs-neg (pos zero) = refl
nat_abs-neg (pos (suc n)) = refl
nat_abs-neg (negsuc n) = refl

nat_abs-sub_ℕ : (a b : ℕ) → nat_abs (sub_ℕ a b) ≤ a + b
nat_abs-sub_ℕ a b = sub_ℕ-cases a b (λ z. nat_abs z ≤ a + b) (λ k e. omega arith) (λ k e. omega arith)

pub nat_abs-add : (x y : ℤ) → nat_abs (x +ℤ y) ≤ nat_abs x + nat_abs y
nat_abs-add (pos a) (pos b) = omega arith
nat_abs-add (pos a) (negsuc b) = nat_abs-sub_ℕ a (suc b)
nat_abs-add (negsuc a) (pos b) = omega (arith, nat_abs-sub_ℕ b (suc a))
nat_abs-add (negsuc a) (negsuc b) = omega arith

pub nat_abs-sub : (x y : ℤ) → nat_abs (x -ℤ y) ≤ nat_abs x + nat_abs y
nat_abs-sub x y = omega (arith, nat_abs-add x (neg_ℤ y), nat_abs-neg y)

pub nat_abs_mul : (x y : ℤ) → nat_abs (x *ℤ y) ≡ nat_abs x * nat_abs y
nat_abs_mul (pos a) (pos b) = refl
nat_abs_mul (pos a) (negsuc b) = nat_abs-neg (pos (a * suc b))
nat_abs_mul (negsuc a) (pos b) = nat_abs-neg (pos (suc a * b))
nat_abs_mul (negsuc a) (negsuc b) = refl

pub nat_abs-quot : (x y : ℤ) → nat_abs (quot_z x y) ≤ nat_abs x
nat_abs-quot (pos a) (pos b) = div-le_self a b
nat_abs-quot (pos a) (negsuc b) = le_trans (le_of_eq (nat_abs-neg (pos (a / suc b)))) (div-le_self a (suc b))
nat_abs-quot (negsuc a) (pos b) = le_trans (le_of_eq (nat_abs-neg (pos (suc a / b)))) (div-le_self (suc a) b)
nat_abs-quot (negsuc a) (negsuc b) = div-le_self (suc a) (suc b)

-- ---- what fits a signed width

pub sfits-nat_abs : (w : Width) (z : ℤ) → nat_abs z < 2 ^ hbits w → SFits w z
sfits-nat_abs w (pos n) h = record { sfits = h }
sfits-nat_abs w (negsuc n) h = record { sfits = omega arith }

pub nat_abs-sfits : (w : Width) (z : ℤ) → SFits w z → nat_abs z ≤ 2 ^ hbits w
nat_abs-sfits w z f = nat_abs-le z f.sfits

-- ---- the ruleset. A search takes the bounds j and k from the hypotheses, and their comparison computes. Where a bound is not at hand as it stands, as in a sum of three, `within-fits w z k (omega (arith, nat_abs-add x y)) tt` says it

-- sizes of results
pub add-within : (x y : ℤ) (j k n : ℕ) → nat_abs x ≤ j → nat_abs y ≤ k → T (leb (j + k) n) → nat_abs (x +ℤ y) ≤ n
add-within x y j k n g h t = omega (arith, nat_abs-add x y, leb→le (j + k) n t)

pub sub_within : (x y : ℤ) (j k n : ℕ) → nat_abs x ≤ j → nat_abs y ≤ k → T (leb (j + k) n) → nat_abs (x -ℤ y) ≤ n
sub_within x y j k n g h t = omega (arith, nat_abs-sub x y, leb→le (j + k) n t)

pub mul-within : (x y : ℤ) (j k n : ℕ) → nat_abs x ≤ j → nat_abs y ≤ k → T (leb (j * k) n) → nat_abs (x *ℤ y) ≤ n
mul-within x y j k n g h t = le_trans (le_of_eq (nat_abs_mul x y)) (le_trans (mul-le-mul g h) (leb→le (j * k) n t))

pub neg-within : (z : ℤ) (n : ℕ) → nat_abs z ≤ n → nat_abs (neg_ℤ z) ≤ n
neg-within z n h = le_trans (le_of_eq (nat_abs-neg z)) h

pub quot-within : (x y : ℤ) (n : ℕ) → nat_abs x ≤ n → nat_abs (quot_z x y) ≤ n
quot-within x y n h = le_trans (nat_abs-quot x y) h

-- widths of results, by the sizes
pub within-fits : (w : Width) (z : ℤ) (k : ℕ) → nat_abs z ≤ k → T (ltb k (2 ^ hbits w)) → SFits w z
within-fits w z k h t = sfits-nat_abs w z (lt_of_le_of_lt h (ltb→lt k (2 ^ hbits w) t))

pub within-add : (w : Width) (x y : ℤ) (j k : ℕ) → nat_abs x ≤ j → nat_abs y ≤ k → T (ltb (j + k) (2 ^ hbits w)) → SFits w (x +ℤ y)
within-add w x y j k g h t = within-fits w (x +ℤ y) (j + k) (le_trans (nat_abs-add x y) (add-le-add g h)) t

pub within-sub : (w : Width) (x y : ℤ) (j k : ℕ) → nat_abs x ≤ j → nat_abs y ≤ k → T (ltb (j + k) (2 ^ hbits w)) → SFits w (x -ℤ y)
within-sub w x y j k g h t = within-fits w (x -ℤ y) (j + k) (le_trans (nat_abs-sub x y) (add-le-add g h)) t

pub within-mul : (w : Width) (x y : ℤ) (j k : ℕ) → nat_abs x ≤ j → nat_abs y ≤ k → T (ltb (j * k) (2 ^ hbits w)) → SFits w (x *ℤ y)
within-mul w x y j k g h t = within-fits w (x *ℤ y) (j * k) (le_trans (le_of_eq (nat_abs_mul x y)) (mul-le-mul g h)) t

-- the difference of two products, as in a determinant
pub within-cross : (w : Width) (a b c d : ℤ) (j k m n : ℕ) → nat_abs a ≤ j → nat_abs b ≤ k → nat_abs c ≤ m → nat_abs d ≤ n → T (ltb (j * k + m * n) (2 ^ hbits w)) → SFits w (a *ℤ b -ℤ c *ℤ d)
within-cross w a b c d j k m n e f g h t = within-sub w (a *ℤ b) (c *ℤ d) (j * k) (m * n) (le_trans (le_of_eq (nat_abs_mul a b)) (mul-le-mul e f)) (le_trans (le_of_eq (nat_abs_mul c d)) (mul-le-mul g h)) t

pub within-neg : (w : Width) (z : ℤ) (k : ℕ) → nat_abs z ≤ k → T (ltb k (2 ^ hbits w)) → SFits w (neg_ℤ z)
within-neg w z k h t = within-fits w (neg_ℤ z) k (neg-within z k h) t

-- with a literal, of which no hypothesis tells the size
pub within-raise : (w : Width) (x : ℤ) (k n : ℕ) → nat_abs x ≤ k → T (ltb (k + n) (2 ^ hbits w)) → SFits w (x +ℤ pos n)
within-raise w x k n h t = within-add w x (pos n) k n h (le_refl n) t

pub within-lower : (w : Width) (x : ℤ) (k n : ℕ) → nat_abs x ≤ k → T (ltb (k + suc n) (2 ^ hbits w)) → SFits w (x +ℤ negsuc n)
within-lower w x k n h t = within-add w x (negsuc n) k (suc n) h (le_refl (suc n)) t

pub within-from : (w : Width) (x : ℤ) (k n : ℕ) → nat_abs x ≤ k → T (ltb (n + k) (2 ^ hbits w)) → SFits w (pos n -ℤ x)
within-from w x k n h t = within-sub w (pos n) x n k (le_refl n) h t

-- of two numbers of a narrower width
pub narrow-add : (w v : Width) (x y : ℤ) → SFits v x → SFits v y → T (ltb (2 ^ hbits v + 2 ^ hbits v) (2 ^ hbits w)) → SFits w (x +ℤ y)
narrow-add w v x y f g t = within-add w x y (2 ^ hbits v) (2 ^ hbits v) (nat_abs-sfits v x f) (nat_abs-sfits v y g) t

pub narrow-sub : (w v : Width) (x y : ℤ) → SFits v x → SFits v y → T (ltb (2 ^ hbits v + 2 ^ hbits v) (2 ^ hbits w)) → SFits w (x -ℤ y)
narrow-sub w v x y f g t = within-sub w x y (2 ^ hbits v) (2 ^ hbits v) (nat_abs-sfits v x f) (nat_abs-sfits v y g) t

pub narrow-mul : (w v : Width) (x y : ℤ) → SFits v x → SFits v y → T (ltb (2 ^ hbits v * 2 ^ hbits v) (2 ^ hbits w)) → SFits w (x *ℤ y)
narrow-mul w v x y f g t = within-mul w x y (2 ^ hbits v) (2 ^ hbits v) (nat_abs-sfits v x f) (nat_abs-sfits v y g) t

pub narrow-neg : (w v : Width) (z : ℤ) → SFits v z → T (ltb (2 ^ hbits v) (2 ^ hbits w)) → SFits w (neg_ℤ z)
narrow-neg w v z f t = within-neg w z (2 ^ hbits v) (nat_abs-sfits v z f) t

-- one step of widths only, so that a search cannot widen again and again
pub narrow-fits : (z : ℤ) → SFits w32 z → SFits w64 z
narrow-fits z f = within-fits w64 z (2 ^ 31) (nat_abs-sfits w32 z f) tt

-- a quotient fits where its dividend does, except that a negative divisor can take the least number out of its width
pub quot_fits : (w : Width) (z : ℤ) (n : ℕ) → SFits w z → SFits w (quot_z z (pos n))
quot_fits w (pos a) n f = record { sfits = lt_of_le_of_lt (div-le_self a n) f.sfits }
quot_fits w (negsuc a) n f = record { sfits = lt_of_le_of_lt (below (suc a / n) (div-le_self (suc a) n)) f.sfits }
  where
    below : (r : ℕ) → r ≤ suc a → mag (neg_ℤ (pos r)) ≤ a
    below zero h = omega arith
    below (suc r) h = omega arith

pub ruleset signed = (tt, within-cross, within-raise, within-lower, within-from, within-add, within-sub, within-mul, within-neg, within-fits, narrow-add, narrow-sub, narrow-mul, narrow-neg, narrow-fits, quot_fits)

-- for a promise `nat_abs z ≤ n`, beside `signed`; apart from it, since a longer list makes a search run out of steps
pub ruleset sizes = (tt, add-within, sub_within, mul-within, neg-within, quot-within)
