-- docs/RULES.md, "The register": what a register means, apart from how it is held. Assumes nothing.
use Rattle.std.specs.Prelude.{ℕ, Bool, true, false, List, [], get_or}
use Rattle.ring.specs.declared.Point.{Point}

-- a ring, or none
pub data Slot : Type 0 where
  unused : Slot
  ring : List Point → Slot

-- an outline ring or none, and for each number 0 to 63 unused or a ring
pub record Register : Type 0 where
  pub outline : Slot
  pub districts : List Slot

-- how many numbers there are
abbrev pub numbers : ℕ
numbers = 64

-- what a number has; numbers above 63 are unused
abbrev pub slot : Register → ℕ → Slot
slot g d = get_or g.districts d unused

abbrev pub in_use : Slot → Bool
in_use unused = false
in_use (ring P) = true

-- the vertices of a slot; an unused one has none
abbrev pub vertices_of : Slot → List Point
vertices_of unused = []
vertices_of (ring P) = P
