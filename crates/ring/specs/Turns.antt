-- docs/RULES.md, "Points and rings": quadrants, quarter turns and the winding number. Assumes nothing.
use Rattle.std.specs.Prelude.{ℕ, zero, suc, ◌%◌, Bool, ◌&&◌, List, eqb, ℤ, pos, negsuc, nat_abs, ◌-ℤ◌, ◌*ℤ◌}
use Rattle.std.specs.Int.Signed.{lt_z, le_z, quot_z}
use Rattle.exact.specs.Sign.{Sign, sign, plus, nought, minus}
use Rattle.ring.specs.declared.Point.{Point}
use Rattle.ring.specs.Choices.{pick}
use Rattle.ring.specs.Rings.{Weight, ring_sum}

-- the four lines of the table: where P = (x, y) lies as seen from R = (a, b)
abbrev pub north_east : Point → Point → Bool
north_east R P = lt_z R.x P.x && le_z R.y P.y

abbrev pub north_west : Point → Point → Bool
north_west R P = le_z P.x R.x && lt_z R.y P.y

abbrev pub south_west : Point → Point → Bool
south_west R P = lt_z P.x R.x && le_z P.y R.y

abbrev pub south_east : Point → Point → Bool
south_east R P = le_z R.x P.x && lt_z P.y R.y

-- the quadrant of P as seen from R; 4 stands for R itself, which is in none
unfoldable pub quadrant : Point → Point → ℕ
quadrant R P = pick (north_east R P) 0 (pick (north_west R P) 1 (pick (south_west R P) 2 (pick (south_east R P) 3 4)))

-- (Px - a)(Qy - b) - (Qx - a)(Py - b)
unfoldable pub determinant : Point → Point → Point → ℤ
determinant R P Q = (P.x -ℤ R.x) *ℤ (Q.y -ℤ R.y) -ℤ (Q.x -ℤ R.x) *ℤ (P.y -ℤ R.y)

abbrev pub twice : Sign → ℤ
twice plus = pos 2
twice nought = pos 0
twice minus = negsuc 1

-- the quarter turns for a difference d of quadrant numbers: 0 for d = 0; 1 for d = 1 or -3; -1 for d = -1 or 3; for d = 2 or -2 the given half turn.
-- (Differences beyond 3 arise only at R itself and are counted as 3 is, so that the reverse of an edge always turns the other way.)
abbrev pub turns_by : ℤ → ℤ → ℤ
turns_by (pos zero) half = pos 0
turns_by (pos (suc zero)) half = pos 1
turns_by (negsuc (suc (suc k))) half = pos 1
turns_by (negsuc zero) half = negsuc 0
turns_by (pos (suc (suc (suc k)))) half = negsuc 0
turns_by (pos (suc (suc zero))) half = half
turns_by (negsuc (suc zero)) half = half

-- the quarter turns of the edge from P to Q as seen from R
unfoldable pub quarter_turns : Point → Weight
quarter_turns R P Q = turns_by (pos (quadrant R Q) -ℤ pos (quadrant R P)) (twice (sign (determinant R P Q)))

-- a quarter of the quarter turns of all edges
unfoldable pub winding : List Point → Point → ℤ
winding P R = quot_z (ring_sum (quarter_turns R) P) (pos 4)

-- whether a winding number is odd
abbrev pub oddly : ℤ → Bool
oddly w = eqb (nat_abs w % 2) 1
