-- How the edges of a ring lie to a row, as one pass over the column of y tells it. Assumes nothing.
use Rattle.std.specs.Prelude.{ℕ, zero, suc, ◌+◌, ◌-◌, ◌≤◌, ◌<◌, ◌≡◌, Bool, true, not, ◌&&◌, ◌||◌, List, length, get_or, ℤ, pos}
use Rattle.std.specs.Int.Signed.{lt_z}
use Rattle.ring.specs.Choices.{pick}
use Rattle.columns.specs.declared.rows.Crossed.{Crossed}

-- the vertex before vertex j of a ring of n
abbrev pub preceding : ℕ → ℕ → ℕ
preceding n zero = n - 1
preceding n (suc j) = j

-- vertex j lies below the row at v
abbrev pub low_at : List ℤ → ℤ → ℕ → Bool
low_at ys v j = lt_z (get_or ys j (pos 0)) v

-- vertex j is not on the row
abbrev pub apart_at : List ℤ → ℤ → ℕ → Bool
apart_at ys v j = low_at ys v j || lt_z v (get_or ys j (pos 0))

-- the edge to vertex j rises from below the row to on or above it, or falls the other way
abbrev pub rises_to : List ℤ → ℤ → ℕ → Bool
rises_to ys v j = low_at ys v (preceding (length ys) j) && not (low_at ys v j)

abbrev pub falls_to : List ℤ → ℤ → ℕ → Bool
falls_to ys v j = not (low_at ys v (preceding (length ys) j)) && low_at ys v j

-- of the indices below k that pass a test: each index, and 65,536 for each
unfoldable pub weights : (ℕ → Bool) → ℕ → ℕ
weights p zero = 0
weights p (suc k) = weights p k + pick (p k) (65536 + k) 0

-- what the edges of a ring weigh that rise, and those that fall; and if it is said, no vertex is on the row
pub record Scanned (ys : List ℤ) (v : ℤ) (s : Crossed) : Type 0 where
  pub rises : s.rises ≡ weights (rises_to ys v) (length ys)
  pub falls : s.falls ≡ weights (falls_to ys v) (length ys)
  pub apart : s.apart ≡ true → (j : ℕ) → j < length ys → apart_at ys v j ≡ true

-- the weight of one index
abbrev pub One : ℕ → Type 0
One w = (65536 ≤ w) × (w < 131072)

-- one edge rises, one falls, and no vertex is on the row
pub record Twice (s : Crossed) : Type 0 where
  pub rises : One s.rises
  pub falls : One s.falls
  pub apart : s.apart ≡ true
