-- The rules: a vertex that equals R, and R on the closed segment of an edge. Assumes nothing.
use Rattle.std.specs.Prelude.{Bool, ◌&&◌, ◌||◌, ℕ, ◌+◌, ◌<◌, ◌≡◌, ℤ, pos, ◌+ℤ◌, ◌*ℤ◌}
use Rattle.std.specs.Int.Signed.{le_z}
use Rattle.exact.specs.Sign.{eq_z}
use Rattle.ring.specs.declared.Point.{Point}
use Rattle.ring.specs.Turns.{determinant}

-- P and R are the same point
unfoldable pub same : Point → Point → Bool
same R P = eq_z R.x P.x && eq_z R.y P.y

-- a lies between p and q, whichever of the two is the larger, or is one of them
abbrev pub between : ℤ → ℤ → ℤ → Bool
between a p q = (le_z p a && le_z a q) || (le_z q a && le_z a p)

-- R is a point of the closed segment from P to Q: in line with both, and between them in x and in y. A segment of no length holds only its own point
unfoldable pub on_segment : Point → Point → Point → Bool
on_segment R P Q = eq_z (determinant R P Q) (pos 0) && (between R.x P.x Q.x && between R.y P.y Q.y)

-- R is the average of P with weight s and Q with weight t: what a point of the closed segment is. That `on_segment` tells exactly these is proved in proofs/Segments.antt
pub record Weighs (R P Q : Point) : Type 0 where
  pub s : ℕ
  pub t : ℕ
  pub some : 0 < s + t
  pub across : pos s *ℤ P.x +ℤ pos t *ℤ Q.x ≡ pos (s + t) *ℤ R.x
  pub up : pos s *ℤ P.y +ℤ pos t *ℤ Q.y ≡ pos (s + t) *ℤ R.y
