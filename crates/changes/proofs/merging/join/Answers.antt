-- `changes::merging::join` has both districts leave before the result is written. Assumes nothing.
use Prim.Native.Nat.{◌/◌}
use native.Mathlib.Omega.{arith}
use mathlib.Core.Path.{subst}
use lib.ListN.{length}
use Rattle.ring.specs.Grid.{vertices}
use Rattle.ring.proofs.Vertices.{length-vertices}
use Rattle.room.specs.Room.{store_of}
use Rattle.room.specs.Writing.{Added}
use Rattle.room.proofs.Leaving.{left-total}
use Rattle.changes.proofs.Merges.{merged-is, second-size, first-total, still-inside}
use Rattle.changes.proofs.merging.join.Goals as goal

pub remove-requires-2-clause-inside : goal.remove-requires-2-clause-inside
remove-requires-2-clause-inside c =
    let s = c.args.seam in
    let runs = c.args.store.now.runs.now in
    let p = c.requires.pair in
    let left = c.remove.ensures.left in
    (still-inside _ runs s.kept s.gone p _ _ left, omega (arith, first-total _ runs s.kept s.gone p _ _ left, p.most))

pub add-requires-clause-fits : goal.add-requires-clause-fits
add-requires-clause-fits c =
    let s = c.args.seam in
    let runs = c.args.store.now.runs.now in
    let p = c.requires.pair in
    let left = c.remove.ensures.left in
    let many = second-size _ runs s.kept s.gone p _ _ left in
    let all = first-total _ runs s.kept s.gone p _ _ left in
    let rest = left-total _ c.remove.new.self.runs.now s.gone _ _ p.second c.remove-2.ensures.left in
    omega (arith, many, all, rest, p.most, c.requires.ring_len, c.requires.other_len, c.requires.edges)

pub returns-clause-joined : goal.returns-clause-joined
returns-clause-joined c =
    let s = c.args.seam in
    let ring = c.args.ring.now in
    let other = c.args.other.now in
    let store₂ = c.remove-2.new.self in
    let after = c.add.new.self in
    let n = length ring / 2 in
    let m = length other / 2 in
    record {
      store₁ = store_of c.remove.new.self;
      runs₁ = c.remove.new.self.runs.now;
      store₂ = store_of store₂;
      runs₂ = store₂.runs.now;
      first = c.remove.ensures.left;
      second = c.remove-2.ensures.left;
      taken = subst (λ R. Added (store_of store₂) store₂.runs.now s.kept R (store_of after) after.runs.now)
          (merged-is (vertices ring) (vertices other) s.a s.b n m s.k c.around.result (length-vertices ring n (omega (arith, c.requires.ring_len.0))) (length-vertices other m (omega (arith, c.requires.other_len.0))) c.around.ensures.0)
          c.add.ensures.added;
    }
