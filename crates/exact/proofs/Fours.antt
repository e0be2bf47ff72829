-- The quarter of a whole number. Assumes nothing.
use Prim.Native.Nat.{ℕ, zero, suc, ◌*◌, ◌/◌}
use native.Mathlib.Omega.{arith}
use mathlib.Core.Path.{◌≡◌, refl, sym, ap, ◌∙◌}
use lib.IntN.{ℤ, pos, negsuc, neg_ℤ, neg_ℤ-neg_ℤ, ◌*ℤ◌}
use lib.Signed.{quot_z}

pub quarter-neg : (z : ℤ) → quot_z (neg_ℤ z) (pos 4) ≡ neg_ℤ (quot_z z (pos 4))
quarter-neg (pos zero) = refl
quarter-neg (pos (suc n)) = refl
quarter-neg (negsuc n) = sym (neg_ℤ-neg_ℤ (pos (suc n / 4)))

pub quarter-times : (z : ℤ) → quot_z (pos 4 *ℤ z) (pos 4) ≡ z
quarter-times (pos n) = ap pos (omega arith)
quarter-times (negsuc n) = quarter-neg (pos (4 * suc n)) ∙ ap (λ (k : ℕ). neg_ℤ (pos k)) (fours n)
  where
    fours : (n : ℕ) → 4 * suc n / 4 ≡ suc n
    fours n = omega arith
