-- `storing::interleave` writes the two numbers of one point after the other. The invariant: the numbers of the first k are written. Assumes nothing.
use Prim.Native.Nat.{◌+◌}
use mathlib.Core.Path.{◌≡◌}
use lib.ListN.{length}
use lib.Seq.{paste}
use Rattle.ring.specs.Columns.{points}
use Rattle.room.specs.Writing.{numbers_of}
use Rattle.room.proofs.storing.interleave.Given as goal

abbrev pub invariant-loop-k : goal.invariant-loop-k
invariant-loop-k l = (l.to ≡ paste l.initial.to 0 (numbers_of (points l.xs l.ys)) (l.k + l.k)) × (length l.to ≡ length l.initial.to)
