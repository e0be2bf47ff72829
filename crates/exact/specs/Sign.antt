-- The sign of a whole number, equality as a test, and the determinant of two arrows: what the contracts of `exact` and of the crates above it cite. Assumes nothing.
use Rattle.std.specs.Prelude.{zero, suc, ◌≤◌, Bool, false, eqb, ℤ, pos, negsuc, nat_abs, ◌-ℤ◌, ◌*ℤ◌}
use Rattle.exact.specs.declared.Arrow.{Arrow}

pub data Sign : Type 0 where
  minus nought plus : Sign

abbrev pub sign : ℤ → Sign
sign (pos zero) = nought
sign (pos (suc n)) = plus
sign (negsuc n) = minus

-- whether two whole numbers are the same
abbrev pub eq_z : ℤ → ℤ → Bool
eq_z (pos a) (pos b) = eqb a b
eq_z (pos a) (negsuc b) = false
eq_z (negsuc a) (pos b) = false
eq_z (negsuc a) (negsuc b) = eqb a b

-- no part of the arrow is longer than two grid coordinates can be apart
pub record Short (p : Arrow) : Type 0 where
  pub across : nat_abs p.x ≤ 2_000_000_000
  pub up : nat_abs p.y ≤ 2_000_000_000

-- the determinant of two arrows, which a coordinate of the grid keeps within 64 signed bits
abbrev pub cross : Arrow → Arrow → ℤ
cross p q = p.x *ℤ q.y -ℤ q.x *ℤ p.y
