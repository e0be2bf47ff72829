-- What stands at a place of the store: the runs that cover it, the run that starts there, as a table holds it, and whether a run ends where it may. Assumes nothing.
use Rattle.std.specs.Prelude.{ℕ, suc, ◌+◌, ◌<◌, ◌≡◌, Bool, ◌&&◌, ◌||◌, List, leb, ltb, eqb, length, get_or}
use Rattle.ring.specs.Choices.{pick}
use Rattle.districts.specs.Lists.{first_place, size}

-- the place is one of district d's
abbrev pub covers : List ℕ → ℕ → ℕ → Bool
covers runs place d = leb (first_place runs d) place && ltb place (first_place runs d + size runs d)

-- of numbers with these first places and sizes, d is one below n, is used, and its run starts at the place
pub record Starts (first size : ℕ → ℕ) (n place d : ℕ) : Type 0 where
  pub below : d < n
  pub used : 0 < size d
  pub there : first d ≡ place

-- the table holds, at each place where runs of numbers below n start, one of these numbers plus 1, and 0 elsewhere
pub record Marked (runs : List ℕ) (n : ℕ) (starts : List ℕ) : Type 0 where
  pub room : length starts ≡ 2048
  pub right : (place d : ℕ) → get_or starts place 0 ≡ suc d → Starts (first_place runs) (size runs) n place d
  pub none-missed : (place d : ℕ) → place < 2048 → Starts (first_place runs) (size runs) n place d → 0 < get_or starts place 0

-- the table holds a run that starts at the place, below the end of all, or the place is the end of all
abbrev pub met : List ℕ → ℕ → ℕ → Bool
met starts all place = pick (ltb place all) (ltb 0 (get_or starts place 0)) (eqb place all)

-- number d is unused, or its run ends at such a place
abbrev pub joined : List ℕ → List ℕ → ℕ → ℕ → Bool
joined runs starts all d = eqb (size runs d) 0 || met starts all (first_place runs d + size runs d)
