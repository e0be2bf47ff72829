-- How three lists held a register before its coordinates stood in columns: the outline's and the store's coordinates x, y, x, y, .. and the runs as they are. Kept to say that every
-- call answers and ends as it did (proofs/Pairs.antt); no promise cites it. Assumes nothing.
use Rattle.std.specs.Prelude.{ℕ, ◌+◌, ◌≡◌, Bool, true, not, ◌&&◌, List, eqb, ℤ, length, take, drop}
use Rattle.ring.specs.Grid.{vertices, some_beyond}
use Rattle.ring.specs.Choices.{pick}
use Rattle.ring.specs.Columns as Columns
use Rattle.refusals.specs.Verdicts.{Verdict, accept, refuse}
use Rattle.districts.specs.Counts.{list_to}
use Rattle.districts.specs.Register.{Slot, unused, ring, Register, numbers}
use Rattle.districts.specs.Lists.{outline_size, first_place, size}
use Rattle.districts.specs.WellFormed.{total, counted, packed}
use Rattle.districts.specs.Lent as Lent

-- the numbers of the n vertices from a place on
abbrev pub part : List ℤ → ℕ → ℕ → List ℤ
part xs place n = take (n + n) (drop (place + place) xs)

-- n vertices from a place on are a ring; none are none
abbrev pub held : List ℤ → ℕ → ℕ → Slot
held xs place n = pick (eqb n 0) unused (ring (vertices (part xs place n)))

abbrev pub district : List ℤ → List ℕ → ℕ → Slot
district store runs d = held store (first_place runs d) (size runs d)

-- the register that the lists hold
unfoldable pub meaning : List ℤ → List ℤ → List ℕ → Register
meaning outline store runs = record { outline = held outline 0 (outline_size runs); districts = list_to numbers (district store runs) }

-- the lists are as long as a register's were
abbrev pub shaped : List ℤ → List ℤ → List ℕ → Bool
shaped outline store runs = eqb (length outline) 4096 && (eqb (length store) 4096 && eqb (length runs) 129)

-- every coordinate of the outline and of the districts is on the grid
abbrev pub on_grid : List ℤ → List ℤ → List ℕ → Bool
on_grid outline store runs = not (some_beyond (part outline 0 (outline_size runs))) && not (some_beyond (part store 0 (total runs)))

unfoldable pub well_formed : List ℤ → List ℤ → List ℕ → Bool
well_formed outline store runs = shaped outline store runs && (counted runs && (packed runs && on_grid outline store runs))

-- ---- the three lists as one value, and what a call left in them

pub record Lists : Type 0 where
  pub outline : List ℤ
  pub store : List ℤ
  pub runs : List ℕ

abbrev pub formed : Lists → Bool
formed p = well_formed p.outline p.store p.runs

abbrev pub means : Lists → Register
means p = meaning p.outline p.store p.runs

abbrev pub Leaves : Verdict → Register → Lists → Lists → Type 0
Leaves accept g before after = (formed after ≡ true) × (means after ≡ g)
Leaves (refuse n) g before after = before ≡ after

-- five lists and three hold the same numbers
pub record Alike (l : Lent.Lists) (p : Lists) : Type 0 where
  pub outline : Columns.Alike p.outline l.ox l.oy
  pub store : Columns.Alike p.store l.sx l.sy
  pub runs : l.runs ≡ p.runs
