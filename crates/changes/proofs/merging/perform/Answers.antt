-- `changes::merging::perform` copies both rings before their room is closed. Assumes nothing.
use native.Mathlib.Omega.{arith}
use mathlib.Core.Path.{subst₂}
use Rattle.districts.specs.Lists.{first_place, size}
use Rattle.room.specs.Room.{store_of}
use Rattle.judging.specs.Merging.{merged}
use Rattle.changes.specs.Performing.{Joined}
use Rattle.changes.proofs.Copied.{copied}
use Rattle.changes.proofs.merging.perform.Goals as goal

pub join-requires : goal.join-requires
join-requires c =
    let s = c.args.store.now in
    let runs = s.runs.now in
    let p = c.requires.pair in
    let one = copied s.sx.now s.sy.now (first_place runs c.args.seam.kept) (size runs c.args.seam.kept) _ s.long.0 s.long.1 (omega (arith, p.first-inside, p.most)) c.ring_of-ring.ensures in
    let two = copied s.sx.now s.sy.now (first_place runs c.args.seam.gone) (size runs c.args.seam.gone) _ s.long.0 s.long.1 (omega (arith, p.second-inside, p.most)) c.ring_of-other.ensures in
    let ends = c.requires.ends in
    let edges = c.requires.edges in
    record {
      pair = p;
      ring_len = (omega (arith, one.long), omega (arith, one.long), omega (arith, one.long, ends));
      other_len = (omega (arith, two.long), omega (arith, two.long), omega (arith, two.long, ends));
      edges = (edges.0, omega (arith, one.long, edges), omega (arith, two.long, edges));
    }

pub returns-clause-joined : goal.returns-clause-joined
returns-clause-joined c =
    let s = c.args.store.now in
    let after = c.join.new.store in
    let runs = s.runs.now in
    let m = c.args.seam in
    let p = c.requires.pair in
    let one = copied s.sx.now s.sy.now (first_place runs m.kept) (size runs m.kept) _ s.long.0 s.long.1 (omega (arith, p.first-inside, p.most)) c.ring_of-ring.ensures in
    let two = copied s.sx.now s.sy.now (first_place runs m.gone) (size runs m.gone) _ s.long.0 s.long.1 (omega (arith, p.second-inside, p.most)) c.ring_of-other.ensures in
    subst₂ (λ P Q. Joined (store_of s) runs m.kept m.gone (merged P m.a Q m.b m.k) (store_of after) after.runs.now) one.ring two.ring c.join.ensures.joined
