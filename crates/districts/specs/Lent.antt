-- A register's five lists as one value, as they are lent to a call: what a call knows of them and what it leaves in them. Assumes nothing.
use Rattle.std.specs.Prelude.{ℕ, ◌+◌, ◌≤◌, ◌<◌, ◌≡◌, Bool, true, false, not, List, [], ◌∷◌, ◌++◌, ℤ, length, drop}
use Rattle.refusals.specs.Verdicts.{Test, ◌if◌, Verdict, accept, refuse}
use Rattle.ring.specs.declared.Point.{Point}
use Rattle.ring.specs.Grid.{some_beyond}
use Rattle.ring.specs.Columns.{points}
use Rattle.districts.specs.Register.{Register, in_use}
use Rattle.districts.specs.Lists.{meaning, first_place, size, part}
use Rattle.districts.specs.WellFormed.{well_formed}

-- the x and y of the outline, those of the store, and the runs
pub record Lists : Type 0 where
  pub ox : List ℤ
  pub oy : List ℤ
  pub sx : List ℤ
  pub sy : List ℤ
  pub runs : List ℕ

abbrev pub lent : List ℤ → List ℤ → List ℤ → List ℤ → List ℕ → Lists
lent ox oy sx sy runs = record { ox = ox; oy = oy; sx = sx; sy = sy; runs = runs }

-- the points that the columns hold
abbrev pub outline_of : Lists → List Point
outline_of l = points l.ox l.oy

abbrev pub store_of : Lists → List Point
store_of l = points l.sx l.sy

-- whether the lists are well-formed, and what they mean
abbrev pub formed : Lists → Bool
formed l = well_formed l.ox l.oy l.sx l.sy l.runs

abbrev pub means : Lists → Register
means l = meaning (outline_of l) (store_of l) l.runs

-- refusals 1 and 2, with which every call but founding begins
abbrev pub beginning : Bool → Register → List Test
beginning well_formed g = (1 if not well_formed) ∷ (2 if not (in_use g.outline)) ∷ []

-- a refused call leaves the very lists it was lent; an accepted one leaves a well-formed register that means g
abbrev pub Leaves : Verdict → Register → Lists → Lists → Type 0
Leaves accept g before after = (formed after ≡ true) × (means after ≡ g)
Leaves (refuse n) g before after = before ≡ after

-- a list that now starts with xs, and holds after it what it held
abbrev pub written : {A : Type 0} → List A → List A → List A
written xs before = xs ++ drop (length xs) before

-- ---- inside the calls. No public promise cites it.

-- what the calls know of the store's columns and the runs of a well-formed register
pub record GoodRuns (sx sy : List ℤ) (runs : List ℕ) : Type 0 where
  pub runs-length : length runs ≡ 129
  pub x-length : length sx ≡ 2048
  pub y-length : length sy ≡ 2048
  pub fits : (d : ℕ) → d < 64 → 0 < size runs d → first_place runs d + size runs d ≤ 2048
  pub least : (d : ℕ) → d < 64 → 0 < size runs d → 3 ≤ size runs d
  pub most : (d : ℕ) → d < 64 → size runs d ≤ 2048
  pub grid-x : (d : ℕ) → d < 64 → 0 < size runs d → some_beyond (part sx (first_place runs d) (size runs d)) ≡ false
  pub grid-y : (d : ℕ) → d < 64 → 0 < size runs d → some_beyond (part sy (first_place runs d) (size runs d)) ≡ false
