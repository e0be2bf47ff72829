-- The rules' limits of a register, apart from how it is held. Assumes nothing.
use Rattle.std.specs.Prelude.{ℕ, ◌≤◌, ◌≡◌, false, length}
use Rattle.ring.specs.Grid.{some_beyond, fewest_vertices, most_vertices}
use Rattle.districts.specs.Register.{Slot, unused, ring, Register, numbers, slot, in_use}
use Rattle.room.specs.Writing.{numbers_of}
use Rattle.judging.specs.Splitting.{vertex_count}

-- a ring of 3 to 2,048 vertices of the grid, or none
abbrev pub Allowed : Slot → Type 0
Allowed unused = Unit
Allowed (ring P) = (fewest_vertices ≤ length P) × (length P ≤ most_vertices) × (some_beyond (numbers_of P) ≡ false)

-- allowed rings, at most 2,048 vertices in all districts together, and districts only beside an outline
pub record Within (g : Register) : Type 0 where
  pub full : length g.districts ≡ numbers
  pub outline : Allowed g.outline
  pub rings : (d : ℕ) → Allowed (slot g d)
  pub most : vertex_count g ≤ most_vertices
  pub beside : in_use g.outline ≡ false → (d : ℕ) → slot g d ≡ unused
