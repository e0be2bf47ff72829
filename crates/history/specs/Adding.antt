-- What is added up over all districts of a register: ring sums for any weight of an edge, and winding numbers. Assumes nothing.
use Rattle.std.specs.Prelude.{ℕ, ◌<◌, ◌≡◌, false, List, [], ◌∷◌, ℤ, pos, ◌+ℤ◌, length}
use Rattle.ring.specs.declared.Point.{Point}
use Rattle.ring.specs.Rings.{Weight, ring_sum}
use Rattle.ring.specs.Turns.{winding}
use Rattle.ring.specs.Locate.{on_edge}
use Rattle.districts.specs.Answers.{Answer, report, one}
use Rattle.districts.specs.Register.{Slot, unused, ring, Register, numbers, slot}

-- a number for each slot, added up over a list of slots
unfoldable pub sum_over : (Slot → ℤ) → List Slot → ℤ
sum_over f [] = pos 0
sum_over f (s ∷ l) = f s +ℤ sum_over f l

-- the ring sum of a slot; an unused one has none
abbrev pub slot_sum : Weight → Slot → ℤ
slot_sum f unused = pos 0
slot_sum f (ring P) = ring_sum f P

-- the winding number about a slot
abbrev pub slot_winding : Point → Slot → ℤ
slot_winding R unused = pos 0
slot_winding R (ring P) = winding P R

-- R is on no edge of a slot
abbrev pub Clear : Point → Slot → Type 0
Clear R unused = Unit
Clear R (ring P) = (i : ℕ) → i < length P → on_edge P R i ≡ false

-- R is on no edge of the outline or of a district in use
pub record ClearOf (g : Register) (R : Point) : Type 0 where
  pub outline : Clear R g.outline
  pub districts : (d : ℕ) → Clear R (slot g d)

-- district d alone has winding number u at R
pub record OnlyOne (g : Register) (R : Point) (u : ℤ) (d : ℕ) : Type 0 where
  pub number : d < numbers
  pub winds : slot_winding R (slot g d) ≡ u
  pub alone : (e : ℕ) → slot_winding R (slot g e) ≡ u → e ≡ d

-- a report's answer is One of a district that alone has winding number u there
pub record SaidOne (answer : Answer) (g : Register) (r : ℕ) (R : Point) (u : ℤ) : Type 0 where
  pub district : ℕ
  pub is : answer ≡ report r (one district)
  pub only : OnlyOne g R u district
