-- docs/RULES.md, "The register": parts of a ring, its indices wrapping round. Assumes nothing.
use Rattle.std.specs.Prelude.{ℕ, zero, suc, ◌+◌, ◌-◌, ◌/◌, ◌%◌, ◌≤◌, ◌≡◌, List, [], ◌∷◌, ℤ, length}
use Rattle.ring.specs.declared.Point.{Point}
use Rattle.ring.specs.Rings.{at}

-- the c vertices Pi, P(i+1), .. going forward
unfoldable pub run : List Point → ℕ → ℕ → List Point
run P i zero = []
run P i (suc c) = at P i ∷ run P (suc i) c

-- how many edges lead from vertex i forward to vertex j, of a ring of n
abbrev pub steps : ℕ → ℕ → ℕ → ℕ
steps n i j = (j + n - i) % n

-- a list of whole vertices x, y, x, y, .., and a run of them that goes round it once at most
pub record Within (ring : List ℤ) (from many : ℕ) : Type 0 where
  pub even : length ring % 2 ≡ 0
  pub begins : from ≤ length ring / 2
  pub once : many ≤ length ring / 2
