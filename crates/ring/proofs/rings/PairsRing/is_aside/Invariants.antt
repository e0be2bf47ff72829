-- `Pairs::is_aside`: after j vertices each of the four tests tells of those j. Assumes nothing.
use Prim.Native.Nat.{◌+◌}
use lib.Signed.{lt_z}
use Rattle.ring.specs.Grid.{vertices}
use Rattle.ring.specs.Rings.{at}
use Rattle.ring.proofs.Walks.{Tells}
use Rattle.ring.proofs.rings.PairsRing.is_aside.Given as goal

abbrev pub invariant-loop-j : goal.invariant-loop-j
invariant-loop-j l =
    let P = vertices l.self.list.now in
    Tells l.north (λ m. lt_z l.r.y (at P (l.i + m)).y) l.j
    × Tells l.south (λ m. lt_z (at P (l.i + m)).y l.r.y) l.j
    × Tells l.east (λ m. lt_z l.r.x (at P (l.i + m)).x) l.j
    × Tells l.west (λ m. lt_z (at P (l.i + m)).x l.r.x) l.j
