-- `StoreMut::add` writes both pieces behind all rings. Assumes nothing.
use native.Mathlib.Omega.{arith}
use mathlib.Core.Path.{◌≡◌, sym, ap, ◌∙◌}
use lib.ListN.{length}
use Rattle.ring.specs.Columns.{points}
use Rattle.ring.proofs.Points.{length-points}
use Rattle.districts.specs.WellFormed.{total}
use Rattle.room.specs.Room.{store_of}
use Rattle.room.proofs.Written.{added}
use Rattle.room.proofs.store_mut.StoreMut.add.Goals as goal

pub returns-clause-added : goal.returns-clause-added
returns-clause-added g c =
    let s = c.args.self.now in
    let store = points s.sx.now s.sy.now in
    let free : c.total-free.result ≡ total s.runs.now = c.total-free.ensures ∙ ap total c.runs.ensures in
    let long : length store ≡ 2048 = length-points s.sx.now s.sy.now (s.long.0 ∙ sym s.long.1) ∙ s.long.0 in
    added store s.runs.now c.args.e (g.P.Piece.points c.args.one.now) (g.Q.Piece.points c.args.two.now) c.total-free.result free (omega (arith, long, free, c.requires.fits))
    c.len-m.result c.len.result (c.len-m.ensures.many ∙ sym c.len-m.ensures.all) (c.len.ensures.many ∙ sym c.len.ensures.all)
    (points c.write.new.xs c.write.new.ys) (points c.write-2.new.xs c.write-2.new.ys) (store_of c.enter.new.self) c.write.ensures c.write-2.ensures c.enter.ensures.store c.enter.new.self.runs.now c.enter.ensures.entered
