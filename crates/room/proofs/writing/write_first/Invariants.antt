-- `writing::write_first` writes one point after the other. The invariant: the first k are written. Assumes nothing.
use mathlib.Core.Path.{◌≡◌}
use lib.Seq.{paste}
use Rattle.ring.specs.Columns.{points}
use Rattle.room.proofs.writing.write_first.Given as goal

abbrev pub invariant-loop-k : goal.invariant-loop-k
invariant-loop-k g l = points l.xs l.ys ≡ paste (points l.initial.xs l.initial.ys) 0 (g.P.Piece.points l.piece) l.k
