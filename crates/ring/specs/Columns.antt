-- Points whose coordinates stand in two columns, all x and all y; and lists and columns that hold a ring of the grid. Assumes nothing.
use Rattle.std.specs.Prelude.{ℕ, zero, suc, ◌+◌, ◌≤◌, ◌≡◌, true, false, List, [], ◌∷◌, ℤ, pos, length, get_or}
use Rattle.std.specs.Int.Signed.{lt_z}
use Rattle.std.proofs.Common.{arith}
use Rattle.ring.specs.declared.Point.{Point}
use Rattle.ring.specs.Grid.{point, some_beyond, vertices}

-- the points (x0, y0), (x1, y1), .. of the columns x0, x1, .. and y0, y1, ..
unfoldable pub points : List ℤ → List ℤ → List Point
points [] ys = []
points (x ∷ xs) [] = []
points (x ∷ xs) (y ∷ ys) = point x y ∷ points xs ys

-- the list x0, y0, x1, y1, .. of the same numbers
unfoldable pub interleaved : List ℤ → List ℤ → List ℤ
interleaved [] ys = []
interleaved (x ∷ xs) [] = []
interleaved (x ∷ xs) (y ∷ ys) = x ∷ y ∷ interleaved xs ys

-- two columns of the same length hold the numbers of a list x, y, x, y, ..
pub record Alike (zs xs ys : List ℤ) : Type 0 where
  pub even : length xs ≡ length ys
  pub numbers : zs ≡ interleaved xs ys

-- columns that hold a ring of the grid
pub record IsRing (xs ys : List ℤ) : Type 0 where
  pub even : length xs ≡ length ys
  pub least : 3 ≤ length xs
  pub most : length xs ≤ 2048
  pub grid-x : some_beyond xs ≡ false
  pub grid-y : some_beyond ys ≡ false

-- a list x, y, x, y, .. that is a ring of the grid
pub record IsPairs (xs : List ℤ) : Type 0 where
  pub even : length xs ≡ length (vertices xs) + length (vertices xs)
  pub least : 3 ≤ length (vertices xs)
  pub most : length (vertices xs) ≤ 2048
  pub grid : some_beyond xs ≡ false

-- the k + 1 numbers of a column from place i on lie all above v, or all below it
pub data Beside (column : List ℤ) (v : ℤ) (i k : ℕ) : Type 0 where
  over : ((j : ℕ) → j ≤ k → lt_z v (get_or column (i + j) (pos 0)) ≡ true) → Beside column v i k
  under : ((j : ℕ) → j ≤ k → lt_z (get_or column (i + j) (pos 0)) v ≡ true) → Beside column v i k

-- there are no more points than numbers of x
pub few-points : (xs ys : List ℤ) → length xs ≤ 2048 → length (points xs ys) ≤ 2048
unfolding points
few-points xs ys h = go xs ys 2048 h
  where
    go : (xs ys : List ℤ) (n : ℕ) → length xs ≤ n → length (points xs ys) ≤ n
    go [] ys n h = h
    go (x ∷ xs) [] n h = omega arith
    go (x ∷ xs) (y ∷ ys) zero h = absurd (omega arith)
    go (x ∷ xs) (y ∷ ys) (suc n) h = let l : length (points xs ys) ≤ n = go xs ys n (omega arith) in omega arith
