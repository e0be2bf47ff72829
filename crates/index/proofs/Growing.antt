-- The bands of numbers on an axis: a larger number is in a band as high at least. Assumes nothing.
use Prim.Native.Nat.{ℕ, ◌≤◌, ◌<◌}
use native.Mathlib.Omega.{arith}
use mathlib.Core.Path.{◌≡◌}
use mathlib.Core.Bool.{true}
use lib.IntN.{ℤ}
use lib.Signed.{le_z}
use lib.Pow.{shr_mono}
use Rattle.index.specs.declared.bands.Axis as Code
use Rattle.index.specs.Axis.{band, OnAxis}
use Rattle.index.proofs.Order.{far-grows}

pub band-grows : (low : ℤ) (shift : ℕ) (v w : ℤ) → le_z low v ≡ true → le_z v w ≡ true → band low shift v ≤ band low shift w
band-grows low shift v w e f = shr_mono shift (far-grows v low e w f)

pub band-few : (a : Code.Axis) (v : ℤ) → OnAxis a → le_z a.low v ≡ true → le_z v a.high ≡ true → band a.low a.shift v < 64
band-few a v on e f = omega (arith, on.few, band-grows a.low a.shift v a.high e f)
