-- At a point on no edge the winding numbers about all districts in use add up to that about the outline, after any list of calls.
-- Assumes nothing.
use Prim.Native.Nat.{ℕ, suc, ◌<◌}
use native.Mathlib.Omega.{arith}
use mathlib.Core.Path.{◌≡◌, refl, sym, ap, ◌∙◌}
use mathlib.Core.Bool.{false}
use mathlib.Core.List.{List, [], ◌∷◌}
use lib.IntN.{ℤ, pos, ◌+ℤ◌, ◌*ℤ◌}
use lib.ListN.{length, get_or}
use Rattle.exact.proofs.Parts.{up, down, parts-mul, by_parts}
use Rattle.exact.proofs.Sums.{*ℤ-+ℤ}
use Rattle.ring.specs.declared.Point.{Point}
use Rattle.ring.specs.Rings.{total, ring_sum}
use Rattle.ring.specs.Turns.{quarter_turns, winding}
use Rattle.ring.specs.Locate.{on_edge}
use Rattle.ring.proofs.Quadrants.{turns-reverse}
use Rattle.ring.proofs.Fours.{winding-exact}
use Rattle.districts.specs.Register.{Slot, unused, ring}
use Rattle.history.specs.Histories.{Call, empty, after}
use Rattle.history.specs.Adding.{sum_over, slot_sum, slot_winding, Clear, ClearOf}
use Rattle.history.proofs.Balanced.{districts-add-up}

-- off a ring, the winding number is exactly a quarter of the quarter turns; a ring of no vertices has none of either
ring-exact : (P : List Point) (R : Point) → ((i : ℕ) → i < length P → on_edge P R i ≡ false) → pos 4 *ℤ winding P R ≡ ring_sum (quarter_turns R) P
unfolding winding ring_sum total
ring-exact [] R free = refl
ring-exact (p ∷ P) R free = winding-exact (p ∷ P) R (omega arith) free

slot-exact : (R : Point) (s : Slot) → Clear R s → pos 4 *ℤ slot_winding R s ≡ slot_sum (quarter_turns R) s
slot-exact R unused free = refl
slot-exact R (ring P) free = ring-exact P R free

all-exact : (R : Point) (l : List Slot) → ((d : ℕ) → Clear R (get_or l d unused)) → pos 4 *ℤ sum_over (slot_winding R) l ≡ sum_over (slot_sum (quarter_turns R)) l
unfolding sum_over
all-exact R [] free = refl
all-exact R (s ∷ l) free = *ℤ-+ℤ (pos 4) (slot_winding R s) (sum_over (slot_winding R) l) ∙ (λ t. slot-exact R s (free 0) t +ℤ all-exact R l (λ d. free (suc d)) t)

quarter : (a b : ℤ) → pos 4 *ℤ a ≡ pos 4 *ℤ b → a ≡ b
quarter a b e = by_parts a b (omega (arith, ap up e, ap down e, parts-mul (pos 4) a, parts-mul (pos 4) b))

-- demand 3
pub windings-add-up : (cs : List Call) (R : Point) → ClearOf (after empty cs) R → sum_over (slot_winding R) (after empty cs).districts ≡ slot_winding R (after empty cs).outline
windings-add-up cs R free =
    let g = after empty cs in
    quarter (sum_over (slot_winding R) g.districts) (slot_winding R g.outline) (
    all-exact R g.districts free.districts
    ∙ districts-add-up (quarter_turns R) (turns-reverse R) cs
    ∙ sym (slot-exact R g.outline free.outline))
