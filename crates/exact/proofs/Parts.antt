-- A whole number as the difference of two naturals, of which one is zero: `up z` above zero and `down z` below it.
-- A law of ℤ is then one of ℕ on the parts of its numbers, which `omega` closes, and `by_parts` takes it back. Assumes nothing.
use Prim.Native.Nat.{ℕ, zero, suc, ◌+◌, ◌*◌, ◌-◌, ◌≤◌, ◌<◌}
use native.Mathlib.Omega.{arith}
use mathlib.Core.Path.{◌≡◌, refl, ap}
use mathlib.Core.Bool.{Bool, true, false, not, cond}
use lib.Dec.{T, ltb, ltb→lt, nltb→le}
use lib.IntN.{ℤ, pos, negsuc, neg_ℤ, sub_ℕ, ◌+ℤ◌, ◌-ℤ◌, ◌*ℤ◌}

abbrev pub up : ℤ → ℕ
up (pos n) = n
up (negsuc n) = zero

abbrev pub down : ℤ → ℕ
down (pos n) = zero
down (negsuc n) = suc n

-- what holds of a - b, told by the two ways it can come out
pub sub_ℕ-cases : (a b : ℕ) (P : ℤ → Type 0) → ((k : ℕ) → a ≡ b + k → P (pos k)) → ((k : ℕ) → b ≡ a + suc k → P (negsuc k)) → P (sub_ℕ a b)
sub_ℕ-cases a b P above below = go (ltb a b) (ltb→lt a b) (nltb→le a b)
  where
    go : (c : Bool) → (T c → a < b) → (T (not c) → b ≤ a) → P (cond c (negsuc (b - suc a)) (pos (a - b)))
    go true less more = below (b - suc a) (omega (arith, less tt))
    go false less more = above (a - b) (omega (arith, more tt))

parts-sub_ℕ : (a b : ℕ) → up (sub_ℕ a b) + b ≡ down (sub_ℕ a b) + a
parts-sub_ℕ a b = sub_ℕ-cases a b (λ z. up z + b ≡ down z + a) (λ k e. omega arith) (λ k e. omega arith)

pub parts-neg : (z : ℤ) → (up (neg_ℤ z) ≡ down z) × (down (neg_ℤ z) ≡ up z)
parts-neg (pos zero) = (refl, refl)
parts-neg (pos (suc n)) = (refl, refl)
parts-neg (negsuc n) = (refl, refl)

pub parts_add : (x y : ℤ) → up (x +ℤ y) + (down x + down y) ≡ down (x +ℤ y) + (up x + up y)
parts_add (pos a) (pos b) = omega arith
parts_add (pos a) (negsuc b) = omega (arith, parts-sub_ℕ a (suc b))
parts_add (negsuc a) (pos b) = omega (arith, parts-sub_ℕ b (suc a))
parts_add (negsuc a) (negsuc b) = omega arith

pub parts-sub : (x y : ℤ) → up (x -ℤ y) + (down x + up y) ≡ down (x -ℤ y) + (up x + down y)
parts-sub x y = omega (arith, parts_add x (neg_ℤ y), parts-neg y)

pub parts-mul : (x y : ℤ) → up (x *ℤ y) + (up x * down y + down x * up y) ≡ down (x *ℤ y) + (up x * up y + down x * down y)
parts-mul (pos a) (pos b) = omega arith
parts-mul (pos a) (negsuc b) = omega (arith, parts-neg (pos (a * suc b)))
parts-mul (negsuc a) (pos b) = omega (arith, parts-neg (pos (suc a * b)))
parts-mul (negsuc a) (negsuc b) = omega arith

pub by_parts : (x y : ℤ) → up x + down y ≡ up y + down x → x ≡ y
by_parts (pos a) (pos b) e = ap pos (omega arith)
by_parts (pos a) (negsuc b) e = absurd (omega arith)
by_parts (negsuc a) (pos b) e = absurd (omega arith)
by_parts (negsuc a) (negsuc b) e = ap negsuc (omega arith)
