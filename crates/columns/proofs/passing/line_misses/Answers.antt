-- `columns::passing::line_misses` asks one column. Assumes nothing.
use mir.Syntax.{w32}
use mir.Val.{SFits}
use mir.Facts.{to_z-of_z}
use borrow.Author.Rules.{rules}
use Rattle.columns.proofs.Sides.{row-misses, column-misses}
use Rattle.columns.proofs.passing.line_misses.Goals as goal

pub returns-in-Row : goal.returns-in-Row
returns-in-Row c e =
    let ring = c.args.ring.now in
    let f : SFits w32 c.args.r.y = search rules in
    row-misses ring.xs.now ring.ys.now c.args.r ring.ring (simp (to_z-of_z f) at (c.beside.ensures e))

pub returns-in-Column : goal.returns-in-Column
returns-in-Column c e =
    let ring = c.args.ring.now in
    let f : SFits w32 c.args.r.x = search rules in
    column-misses ring.xs.now ring.ys.now c.args.r ring.ring (simp (to_z-of_z f) at (c.beside-in-Column.ensures e))
