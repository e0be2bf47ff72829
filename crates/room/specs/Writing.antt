-- A ring's numbers, and what the routines that write rings leave in the points of the store. No call's promise cites it. Assumes nothing.
use Rattle.std.specs.Prelude.{ℕ, ◌+◌, ◌-◌, ◌≤◌, ◌<◌, ◌≡◌, List, [], ◌∷◌, ◌++◌, leb, ℤ, length, get_or, take, drop, set}
use Rattle.ring.specs.declared.Point.{Point}
use Rattle.ring.specs.Choices.{pick}
use Rattle.districts.specs.Lists.{outline_size, first_place, size, part}
use Rattle.districts.specs.WellFormed.{total}

-- x0, y0, x1, y1, .. of points
unfoldable pub numbers_of : List Point → List ℤ
numbers_of [] = []
numbers_of (p ∷ P) = p.x ∷ p.y ∷ numbers_of P

-- the first places from `end` on are n lower; nothing else is changed
pub record Lowered (runs : List ℕ) (end n : ℕ) (runs' : List ℕ) : Type 0 where
  pub long : length runs' ≡ length runs
  pub places : (e : ℕ) → e < 64 → first_place runs' e ≡ pick (leb end (first_place runs e)) (first_place runs e - n) (first_place runs e)
  pub outline : get_or runs' 0 0 ≡ get_or runs 0 0
  pub sizes : (k : ℕ) → 65 ≤ k → get_or runs' k 0 ≡ get_or runs k 0

-- a number takes m vertices from a place on
abbrev pub entered : List ℕ → ℕ → ℕ → ℕ → List ℕ
entered runs e place m = set (set runs (1 + e) place) (65 + e) m

-- what is left of the store and the runs once number d has left: its size is 0, the places after its run are lower by its size, and
-- the vertices before its run stand where they stood, those after it from its first place on
pub record Left (store : List Point) (runs : List ℕ) (d : ℕ) (store' : List Point) (runs' : List ℕ) : Type 0 where
  pub long-store : length store' ≡ 2048
  pub long-runs : length runs' ≡ 129
  pub outline-same : outline_size runs' ≡ outline_size runs
  pub gone : size runs' d ≡ 0
  pub sizes : (e : ℕ) → e < 64 → (e ≡ d → ⊥) → size runs' e ≡ size runs e
  pub places : (e : ℕ) → e < 64 → (e ≡ d → ⊥) → first_place runs' e ≡ pick (leb (first_place runs d + size runs d) (first_place runs e)) (first_place runs e - size runs d) (first_place runs e)
  pub lower : part store' 0 (first_place runs d) ≡ part store 0 (first_place runs d)
  pub moved : part store' (first_place runs d) (total runs - (first_place runs d + size runs d)) ≡ part store (first_place runs d + size runs d) (total runs - (first_place runs d + size runs d))

-- ys stand behind the first a; what comes after them is as it was
abbrev pub behind : {A : Type 0} → List A → ℕ → List A → List A
behind xs a ys = take a xs ++ (ys ++ drop (a + length ys) xs)

-- number e takes the ring P, written from the first free place of the store on
abbrev pub Added : List Point → List ℕ → ℕ → List Point → List Point → List ℕ → Type 0
Added store runs e P store' runs' = (store' ≡ behind store (total runs) P) × (runs' ≡ entered runs e (total runs) (length P))
