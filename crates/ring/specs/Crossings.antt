-- The crossing rule, by which the code counts; the promises speak of quarter turns. An edge that rises from below R's row to on or above it counts 1 if its determinant is above 0
-- (R lies to its left), one that falls the other way counts -1 if it is below 0. That the rule's ring sum off the ring is the winding number is proved in proofs/Crossings.antt. Assumes nothing.
use Rattle.std.specs.Prelude.{Bool, not, ◌&&◌, ℤ, pos, negsuc, ◌-ℤ◌}
use Rattle.std.specs.Bool.{beq}
use Rattle.std.specs.Int.Signed.{lt_z}
use Rattle.ring.specs.declared.Point.{Point}
use Rattle.ring.specs.Choices.{pick, count}
use Rattle.ring.specs.Rings.{Weight}
use Rattle.ring.specs.Turns.{determinant}

-- P lies below R's row
abbrev pub below : Point → Point → Bool
below R P = lt_z P.y R.y

abbrev pub rises : Point → Point → Point → Bool
rises R P Q = below R P && not (below R Q)

abbrev pub falls : Point → Point → Point → Bool
falls R P Q = not (below R P) && below R Q

-- what the edge from P to Q counts
unfoldable pub crossing : Point → Weight
crossing R P Q =
    pick (rises R P Q && lt_z (pos 0) (determinant R P Q)) (pos 1)
    (pick (falls R P Q && lt_z (determinant R P Q) (pos 0)) (negsuc 0) (pos 0))

-- what the code adds for an edge: d is its determinant, and s and t say whether its first and its second end lie below the row
abbrev pub steps : ℤ → Bool → Bool → ℤ
steps d s t = pick (beq (lt_z d (pos 0)) t) (pos (count s) -ℤ pos (count t)) (pos 0)
