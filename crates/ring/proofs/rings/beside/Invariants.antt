-- `ring::beside`: after some numbers both tests tell of those. Assumes nothing.
use lib.IntN.{pos}
use lib.ListN.{get_or}
use lib.Signed.{lt_z}
use Rattle.ring.proofs.Walks.{Tells}
use Rattle.ring.proofs.rings.beside.Given as goal

abbrev pub invariant-loop-p : goal.invariant-loop-p
invariant-loop-p l =
    Tells l.above (λ m. lt_z l.v (get_or l.p-items m (pos 0))) l.p-index
    × Tells l.below (λ m. lt_z (get_or l.p-items m (pos 0)) l.v) l.p-index
