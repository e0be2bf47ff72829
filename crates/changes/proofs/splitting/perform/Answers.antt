-- `changes::splitting::perform` copies the district's ring before its room is closed. Assumes nothing.
use native.Mathlib.Omega.{arith}
use mathlib.Core.Path.{subst}
use Rattle.ring.specs.Grid.{vertices}
use Rattle.districts.specs.Lists.{first_place, size}
use Rattle.room.specs.Room.{store_of}
use Rattle.judging.specs.Splitting.{piece_one, piece_two}
use Rattle.changes.specs.Performing.{Divided}
use Rattle.changes.proofs.Copied.{copied}
use Rattle.changes.proofs.splitting.perform.Goals as goal

pub divide-requires : goal.divide-requires
divide-requires c =
    let s = c.args.store.now in
    let d = c.args.cut.d in
    let inside = c.requires.inside in
    let ends = c.requires.ends in
    let own = copied s.sx.now s.sy.now (first_place s.runs.now d) (size s.runs.now d) _ s.long.0 s.long.1 (omega (arith, inside, c.requires.room)) c.ring_of-ring.ensures in
    record {
      numbers = c.requires.numbers;
      ring_len = (omega (arith, own.long), omega (arith, own.long), omega (arith, own.long, inside));
      ends = (omega (arith, own.long, ends.0), omega (arith, own.long, ends.1), ends.2);
      path_len = c.requires.path_len;
      room = c.requires.room;
    }

pub returns-clause-divided : goal.returns-clause-divided
returns-clause-divided c =
    let s = c.args.store.now in
    let after = c.divide.new.store in
    let cut = c.args.cut in
    let W = vertices c.args.path.now in
    let own = copied s.sx.now s.sy.now (first_place s.runs.now cut.d) (size s.runs.now cut.d) _ s.long.0 s.long.1 (omega (arith, c.requires.inside, c.requires.room)) c.ring_of-ring.ensures in
    subst (λ P. Divided (store_of s) s.runs.now cut.d c.args.e (piece_one P cut.i cut.j W) (piece_two P cut.i cut.j W) (store_of after) after.runs.now) own.ring c.divide.ensures.divided
