-- The nearest millimetre, computed; proofs/Exactly.antt has that it is the one of Nearest.antt. Assumes nothing.
use Rattle.std.specs.Prelude.{ℕ, suc, ◌+◌, ◌-◌, ◌*◌, ◌/◌, ◌%◌, ◌^◌, ◌≡◌, false, not, ◌&&◌, ◌||◌, ltb, leb, eqb, ℤ, pos, Float, Result, Ok, Err}
use Rattle.std.specs.Float.{nan, inf, fin}
use Rattle.std.specs.Float.Ieee.{up, down}
use Rattle.refusals.specs.declared.Refusal.{Refusal}
use Rattle.refusals.specs.declared.Refusal.TheVariants.{NotFinite, BeyondGrid}
use Rattle.ring.specs.declared.Point.{Point}
use Rattle.ring.specs.Grid.{point, beyond}
use Rattle.ring.specs.Choices.{pick}
use Rattle.fixes.specs.Nearest.{with_sign, finite, in_metre}

-- m / d to the nearest whole number, by how twice the remainder compares with d, halves to even
abbrev pub rounded : ℕ → ℕ → ℕ
rounded m d = pick (ltb (2 * (m % d)) d) (m / d) (pick (ltb d (2 * (m % d))) (suc (m / d)) (m / d + m / d % 2))

-- a double of metres in millimetres; 0 for what is not finite
abbrev pub millimetres : Float → ℤ
millimetres nan = pos 0
millimetres (inf s) = pos 0
millimetres (fin s m e) = with_sign s (rounded (in_metre * m * up e) (down e))

-- both values are asked to be finite before either is asked to be on the grid
abbrev pub placed : Float → Float → Result Point Refusal
placed easting northing =
    pick (not (finite easting && finite northing)) (Err NotFinite)
    (pick (beyond (millimetres easting) || beyond (millimetres northing)) (Err BeyondGrid) (Ok (point (millimetres easting) (millimetres northing))))

-- ---- inside the crate. No public promise cites it.

-- v stands for the millimetres of x: it is them, or both are beyond the grid
pub record StandsFor (v : ℤ) (x : Float) : Type 0 where
  pub far : beyond v ≡ beyond (millimetres x)
  pub near : beyond (millimetres x) ≡ false → v ≡ millimetres x

-- the size in millimetres of a double by its exponent's field and its fraction; from 2 ^ 20 metres on, the first number beyond the grid
abbrev pub size_of : ℕ → ℕ → ℕ
size_of field fraction =
    pick (leb 1043 field) 1000000001
    (pick (eqb field 0) (rounded (in_metre * fraction) (2 ^ 1074)) (rounded (in_metre * (2 ^ 52 + fraction)) (2 ^ (1075 - field))))
