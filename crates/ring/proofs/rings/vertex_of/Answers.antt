-- `rings::vertex_of` reads the two numbers of vertex i. Assumes nothing.
use mathlib.Core.Path.{sym}
use lib.IntN.{pos}
use lib.ListN.{get_or}
use mir.Syntax.{w32}
use mir.Val.{SFits}
use mir.Facts.{to_z-of_z}
use borrow.Author.Rules.{rules}
use Rattle.ring.proofs.Points.{point_at}
use Rattle.ring.proofs.rings.vertex_of.Goals as goal

pub returns : goal.returns
returns c =
    let xs = c.args.xs.now in
    let ys = c.args.ys.now in
    let i = c.args.i in
    let f : SFits w32 (get_or xs i (pos 0)) = search rules in
    let g : SFits w32 (get_or ys i (pos 0)) = search rules in
    simp (to_z-of_z f, to_z-of_z g) (sym (point_at xs ys i c.requires.1 c.requires.0))
