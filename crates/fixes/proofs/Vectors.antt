-- Doubles by their bits, with their millimetres by the definitions; the numbers named above them are what a reader would write for them. Assumes nothing.
use mathlib.Core.Path.{◌≡◌, refl}
use lib.IntN.{ℤ, pos, negsuc}
use lib.Ieee.{binary64, of_bits}
use Rattle.std.specs.Prelude.{Result, Ok, Err}
use Rattle.refusals.specs.declared.Refusal.{Refusal}
use Rattle.refusals.specs.declared.Refusal.TheVariants.{NotFinite, BeyondGrid}
use Rattle.ring.specs.declared.Point.{Point}
use Rattle.ring.specs.Grid.{point}
use Rattle.fixes.specs.Millimetres.{placed}

abbrev on_grid : ℤ → ℤ → Result Point Refusal
on_grid x y = Ok (point x y)

-- ---- halves

-- 0.0625 and 0.1875
halves : placed (of_bits binary64 0x3FB0_0000_0000_0000) (of_bits binary64 0x3FC8_0000_0000_0000) ≡ on_grid (pos 62) (pos 188)
unfolding of_bits
halves = refl

-- -0.0625 and -0.1875
halves-below-zero : placed (of_bits binary64 0xBFB0_0000_0000_0000) (of_bits binary64 0xBFC8_0000_0000_0000) ≡ on_grid (negsuc 61) (negsuc 187)
unfolding of_bits
halves-below-zero = refl

-- 0.0005 and 2.0005, which no double is: both doubles are a little above. In doubles 1,000 times the first is the half itself, which would go to 0
written-as-halves : placed (of_bits binary64 0x3F40_624D_D2F1_A9FC) (of_bits binary64 0x4000_0106_24DD_2F1B) ≡ on_grid (pos 1) (pos 2001)
unfolding of_bits
written-as-halves = refl

-- ---- zeros

-- -0.0 and the smallest double above zero
zeros : placed (of_bits binary64 0x8000_0000_0000_0000) (of_bits binary64 0x0000_0000_0000_0001) ≡ on_grid (pos 0) (pos 0)
unfolding of_bits
zeros = refl

-- ---- the edge of the grid: 1000000.0005 is a little below the half, the next double above it

-- 1000000.0 and -1000000.0
corner : placed (of_bits binary64 0x412E_8480_0000_0000) (of_bits binary64 0xC12E_8480_0000_0000) ≡ on_grid (pos 1_000_000_000) (negsuc 999_999_999)
unfolding of_bits
corner = refl

-- 1000000.0005 and -1000000.0005
last-on-grid : placed (of_bits binary64 0x412E_8480_0041_8937) (of_bits binary64 0xC12E_8480_0041_8937) ≡ on_grid (pos 1_000_000_000) (negsuc 999_999_999)
unfolding of_bits
last-on-grid = refl

-- the next double, and 0.0
first-beyond-easting : placed (of_bits binary64 0x412E_8480_0041_8938) (of_bits binary64 0x0000_0000_0000_0000) ≡ Err BeyondGrid
unfolding of_bits
first-beyond-easting = refl

-- 0.0, and the next double below zero
first-beyond-northing : placed (of_bits binary64 0x0000_0000_0000_0000) (of_bits binary64 0xC12E_8480_0041_8938) ≡ Err BeyondGrid
unfolding of_bits
first-beyond-northing = refl

-- 1048576.0, the first that no size is computed of, and the largest double
far : placed (of_bits binary64 0x4130_0000_0000_0000) (of_bits binary64 0x7FEF_FFFF_FFFF_FFFF) ≡ Err BeyondGrid
unfolding of_bits
far = refl

-- ---- no numbers, beside the largest double too

-- infinity and 0.0
infinity : placed (of_bits binary64 0x7FF0_0000_0000_0000) (of_bits binary64 0x0000_0000_0000_0000) ≡ Err NotFinite
unfolding of_bits
infinity = refl

-- the largest double and -infinity
infinity-below-zero : placed (of_bits binary64 0x7FEF_FFFF_FFFF_FFFF) (of_bits binary64 0xFFF0_0000_0000_0000) ≡ Err NotFinite
unfolding of_bits
infinity-below-zero = refl

-- a NaN and the largest double
not-a-number : placed (of_bits binary64 0x7FF8_0000_0000_0000) (of_bits binary64 0x7FEF_FFFF_FFFF_FFFF) ≡ Err NotFinite
unfolding of_bits
not-a-number = refl

-- 0.0 and a NaN of another pattern
not-a-number-either : placed (of_bits binary64 0x0000_0000_0000_0000) (of_bits binary64 0xFFF0_0000_0000_0001) ≡ Err NotFinite
unfolding of_bits
not-a-number-either = refl
