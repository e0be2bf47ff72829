-- docs/RULES.md, "The register", positions: which whole number of millimetres is nearest to a double of metres, halves to even. It is asked of whole numbers only:
-- a double is a sign, a whole number m and a power of two, 2 ^ e = up e / down e. Assumes nothing.
use Rattle.std.specs.Prelude.{ℕ, ◌*◌, ◌≤◌, ◌%◌, ◌≡◌, Bool, true, false, ℤ, pos, neg_ℤ, nat_abs, ◌-ℤ◌, ◌*ℤ◌, Float}
use Rattle.std.specs.Float.{nan, inf, fin}
use Rattle.std.specs.Float.Ieee.{up, down}

-- n is nearest to z / d: twice the distance of n d from z is at most d, and where it is d, n is even
pub record Nearest (z : ℤ) (d : ℕ) (n : ℤ) : Type 0 where
  pub near : 2 * nat_abs (pos d *ℤ n -ℤ z) ≤ d
  pub even : 2 * nat_abs (pos d *ℤ n -ℤ z) ≡ d → nat_abs n % 2 ≡ 0

-- a size with a sign; true says that it is negative
abbrev pub with_sign : Bool → ℕ → ℤ
with_sign false n = pos n
with_sign true n = neg_ℤ (pos n)

-- neither a NaN nor an infinity
abbrev pub finite : Float → Bool
finite nan = false
finite (inf s) = false
finite (fin s m e) = true

-- how many millimetres a metre has
abbrev pub in_metre : ℕ
in_metre = 1000

-- n millimetres are nearest to a double of metres
abbrev pub NearestTo : Float → ℤ → Type 0
NearestTo nan n = ⊥
NearestTo (inf s) n = ⊥
NearestTo (fin s m e) n = Nearest (with_sign s (in_metre * m * up e)) (down e) n
