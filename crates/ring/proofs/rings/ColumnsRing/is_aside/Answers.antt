-- `Columns::is_aside` asks the column of y, and then that of x. Assumes nothing.
use native.Mathlib.Omega.{arith}
use mir.Syntax.{w32}
use mir.Val.{SFits}
use mir.Facts.{to_z-of_z}
use borrow.Author.Rules.{rules}
use Rattle.ring.proofs.Points.{length-points}
use Rattle.ring.proofs.Sides.{by_row, by-column}
use Rattle.ring.proofs.rings.ColumnsRing.is_aside.Goals as goal

pub beside-requires : goal.beside-requires
beside-requires c =
    let s = c.args.self.now in
    (omega (arith, length-points s.xs.now s.ys.now s.ring.even, s.ring.even), omega (arith, s.ring.even, s.ring.most))

pub returns-then-beside : goal.returns-then-beside
returns-then-beside c e =
    let s = c.args.self.now in
    let f : SFits w32 c.args.r.y = search rules in
    by_row s.xs.now s.ys.now c.args.r c.args.i c.args.k s.ring.even (omega (arith, length-points s.xs.now s.ys.now s.ring.even)) (simp (to_z-of_z f) at (c.beside.ensures c.if-beside.true))

pub beside-requires-2 : goal.beside-requires-2
beside-requires-2 c =
    let s = c.args.self.now in
    (omega (arith, length-points s.xs.now s.ys.now s.ring.even), s.ring.most)

pub returns : goal.returns
returns c e =
    let s = c.args.self.now in
    let f : SFits w32 c.args.r.x = search rules in
    by-column s.xs.now s.ys.now c.args.r c.args.i c.args.k s.ring.even (omega (arith, length-points s.xs.now s.ys.now s.ring.even)) (simp (to_z-of_z f) at (c.beside-2.ensures e))
