-- An index of the districts along one axis, x or y: the bounds of each district, and the axis cut into 64 bands of equal width, a power of two, each with a mask of the
-- districts that touch it. What it is for: a number outside a district's bounds, or in a band whose mask has not the district, is beside the district. Assumes nothing.
use Rattle.std.specs.Prelude.{ℕ, ◌+◌, ◌-◌, ◌/◌, ◌%◌, ◌^◌, ◌≤◌, ◌<◌, ◌≡◌, Bool, true, false, ◌&&◌, ◌||◌, List, eqb, ℤ, pos, nat_abs, ◌-ℤ◌, length, get_or}
use Rattle.std.specs.Int.Signed.{lt_z, le_z}
use Rattle.ring.specs.Choices.{pick}
use Rattle.ring.specs.Columns.{Beside}
use Rattle.districts.specs.Lists.{first_place, size, part}
use Rattle.index.specs.declared.bands.Axis as Code
use Rattle.index.specs.declared.bounds.Bounds.{Bounds}

-- a column with the runs of all districts in it
pub record Held (column : List ℤ) (runs : List ℕ) : Type 0 where
  pub long : length column ≡ 2048
  pub runs-length : length runs ≡ 129
  pub fits : (d : ℕ) → d < 64 → 0 < size runs d → first_place runs d + size runs d ≤ 2048

-- the numbers of d's run
abbrev pub run : List ℤ → List ℕ → ℕ → List ℤ
run column runs d = part column (first_place runs d) (size runs d)

-- each number of a column is low at least, or high at most
abbrev pub From : List ℤ → ℤ → Type 0
From column low = (j : ℕ) → j < length column → le_z low (get_or column j (pos 0)) ≡ true

abbrev pub UpTo : List ℤ → ℤ → Type 0
UpTo column high = (j : ℕ) → j < length column → le_z (get_or column j (pos 0)) high ≡ true

-- the bounds of a column, the low one not above the high one
abbrev pub Bounding : List ℤ → Bounds → Type 0
Bounding column b = From column b.low × UpTo column b.high × (le_z b.low b.high ≡ true)

-- ---- bounds: a pair for each number

-- what stands behind the last one
abbrev pub no_bounds : Bounds
no_bounds = record { low = pos 0; high = pos 0 }

abbrev pub low_of : List Bounds → ℕ → ℤ
low_of bounds d = (get_or bounds d no_bounds).low

abbrev pub high_of : List Bounds → ℕ → ℤ
high_of bounds d = (get_or bounds d no_bounds).high

-- the low bounds of the numbers below n are not above their high ones
abbrev pub InOrder : List Bounds → ℕ → Type 0
InOrder bounds n = (d : ℕ) → d < n → le_z (low_of bounds d) (high_of bounds d) ≡ true

-- v is within d's bounds
abbrev pub within : List Bounds → ℕ → ℤ → Bool
within bounds d v = le_z (low_of bounds d) v && le_z v (high_of bounds d)

-- what bounds number d: they hold its run, if it is used
pub record BoundsOf (column : List ℤ) (runs : List ℕ) (d : ℕ) (b : Bounds) : Type 0 where
  pub low : 0 < size runs d → From (run column runs d) b.low
  pub high : 0 < size runs d → UpTo (run column runs d) b.high
  pub order : le_z b.low b.high ≡ true

-- the bounds of the numbers below n hold their runs
pub record Bounded (column : List ℤ) (runs : List ℕ) (n : ℕ) (bounds : List Bounds) : Type 0 where
  pub room : length bounds ≡ 64
  pub low : (d : ℕ) → d < n → 0 < size runs d → From (run column runs d) (low_of bounds d)
  pub high : (d : ℕ) → d < n → 0 < size runs d → UpTo (run column runs d) (high_of bounds d)
  pub order : InOrder bounds n

-- ---- bands

-- how far v is from low, which is not above it
abbrev pub far : ℤ → ℤ → ℕ
far v low = nat_abs (v -ℤ low)

-- the band of a number that is low at least
abbrev pub band : ℤ → ℕ → ℤ → ℕ
band low shift v = far v low / 2 ^ shift

-- an axis of 64 bands at most
pub record OnAxis (a : Code.Axis) : Type 0 where
  pub order : le_z a.low a.high ≡ true
  pub most : a.shift < 64
  pub few : band a.low a.shift a.high < 64

-- all bounds lie on it
pub record Spans (bounds : List Bounds) (a : Code.Axis) : Type 0 where
  pub axis : OnAxis a
  pub low : (d : ℕ) → d < 64 → le_z a.low (low_of bounds d) ≡ true
  pub high : (d : ℕ) → d < 64 → le_z (high_of bounds d) a.high ≡ true

-- bit d of a mask
abbrev pub bit : ℕ → ℕ → Bool
bit mask d = eqb (mask / 2 ^ d % 2) 1

-- each band from the one to the other has d's bit
abbrev pub Covers : List ℕ → ℕ → ℕ → ℕ → Type 0
Covers masks d from to = (b : ℕ) → from ≤ b → b ≤ to → bit (get_or masks b 0) d ≡ true

-- the same masks, but that each band from the one to the other has d's bit too
pub record Widened (before : List ℕ) (d from to : ℕ) (after : List ℕ) : Type 0 where
  pub room : length after ≡ length before
  pub kept : (b e : ℕ) → bit (get_or before b 0) e ≡ true → bit (get_or after b 0) e ≡ true
  pub new : Covers after d from to

-- the used numbers below n have their bits in all bands that they touch
pub record Marked (bounds : List Bounds) (runs : List ℕ) (a : Code.Axis) (n : ℕ) (masks : List ℕ) : Type 0 where
  pub room : length masks ≡ 64
  pub touched : (d : ℕ) → d < n → 0 < size runs d → Covers masks d (band a.low a.shift (low_of bounds d)) (band a.low a.shift (high_of bounds d))

-- the mask of the band that v is in; none where v is not on the axis
abbrev pub listed : List ℕ → Code.Axis → ℤ → ℕ
listed masks a v = pick (lt_z v a.low || lt_z a.high v) 0 (get_or masks (band a.low a.shift v) 0)

-- ---- what it is for

-- d's run lies all above v or all below it
abbrev pub RunBeside : List ℤ → List ℕ → ℕ → ℤ → Type 0
RunBeside column runs d v = Beside (run column runs d) v 0 (size runs d - 1)

pub record Fits (column : List ℤ) (runs : List ℕ) (bounds : List Bounds) (masks : List ℕ) (a : Code.Axis) : Type 0 where
  pub bounds-room : length bounds ≡ 64
  pub masks-room : length masks ≡ 64
  pub axis : OnAxis a
  pub outside : (d : ℕ) (v : ℤ) → d < 64 → 0 < size runs d → within bounds d v ≡ false → RunBeside column runs d v
  pub unlisted : (d : ℕ) (v : ℤ) → d < 64 → 0 < size runs d → bit (listed masks a v) d ≡ false → RunBeside column runs d v
