-- How five lists hold a register: the outline's x and y in two columns, the store's, which are the x and y of all districts' vertices, in two more, and the runs: the
-- outline's number of vertices (0: none), then for each of the 64 numbers its first place in the store, then for each its number of vertices (0: unused).
-- The outline and the store are told by their points. Above `meaning` a register is a value: what a call answers and makes of it is said without the lists. Assumes nothing.
use Rattle.std.specs.Prelude.{ℕ, ◌+◌, List, eqb, get_or, take, drop}
use Rattle.ring.specs.declared.Point.{Point}
use Rattle.ring.specs.Choices.{pick}
use Rattle.districts.specs.Counts.{list_to}
use Rattle.districts.specs.Register.{Slot, unused, ring, Register, numbers}

abbrev pub outline_size : List ℕ → ℕ
outline_size runs = get_or runs 0 0

abbrev pub first_place : List ℕ → ℕ → ℕ
first_place runs d = get_or runs (1 + d) 0

abbrev pub size : List ℕ → ℕ → ℕ
size runs d = get_or runs (65 + d) 0

-- the n from a place on: of points, or of the numbers of one column
abbrev pub part : {A : Type 0} → List A → ℕ → ℕ → List A
part l place n = take n (drop place l)

-- n points from a place on are a ring; none are none
abbrev pub held : List Point → ℕ → ℕ → Slot
held P place n = pick (eqb n 0) unused (ring (part P place n))

abbrev pub district : List Point → List ℕ → ℕ → Slot
district store runs d = held store (first_place runs d) (size runs d)

-- the register that an outline's points, a store's and the runs hold
unfoldable pub meaning : List Point → List Point → List ℕ → Register
meaning outline store runs = record { outline = held outline 0 (outline_size runs); districts = list_to numbers (district store runs) }
