-- Whole numbers in order, how far one is from another, and the bounds of several. Assumes nothing.
use Rattle.std.proofs.Common.{◌≡◌, ℕ, ◌≤◌, ◌<◌, Bool, true, false, List, ℤ, pos, ◌-ℤ◌, get_or, arith}
use Rattle.std.proofs.lemmas.Int.{ints}
use Rattle.std.specs.Int.Signed.{lt_z, le_z}
use lib.IntN.{nat_abs}

pub not-le : (a b : ℤ) → le_z a b ≡ false → lt_z b a ≡ true
not-le a b e = grind (arith, ints)

pub le_trans : (a b c : ℤ) → le_z a b ≡ true → le_z b c ≡ true → le_z a c ≡ true
le_trans a b c e f = grind (arith, ints)

pub lt-le-trans : (a b c : ℤ) → lt_z a b ≡ true → le_z b c ≡ true → lt_z a c ≡ true
lt-le-trans a b c e f = grind (arith, ints)

pub le_lt_trans : (a b c : ℤ) → le_z a b ≡ true → lt_z b c ≡ true → lt_z a c ≡ true
le_lt_trans a b c e f = grind (arith, ints)

-- how far v and w are from l, which is not above v
pub far-grows : (v l : ℤ) → le_z l v ≡ true → (w : ℤ) → le_z v w ≡ true → nat_abs (v -ℤ l) ≤ nat_abs (w -ℤ l)
far-grows v l e w f = grind (arith, ints)

-- the other way round
abbrev pub ge_z : ℤ → ℤ → Bool
ge_z a b = le_z b a

-- a bound of the first j numbers of a column, in either order
abbrev pub BoundsTo : (ℤ → ℤ → Bool) → List ℤ → ℕ → ℤ → Type 0
BoundsTo le column j a = (k : ℕ) → k < j → le a (get_or column k (pos 0)) ≡ true
