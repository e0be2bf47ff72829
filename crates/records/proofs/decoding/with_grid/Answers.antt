-- `records::decoding::with_grid` reads x and y once they are there. Assumes nothing.
use mir.Syntax.{w32}
use mir.Val.{SFits}
use mir.Facts.{to_z-of_z}
use borrow.Author.Rules.{rules}
use Rattle.records.proofs.Fronts.{grid-whole}
use Rattle.records.proofs.decoding.with_grid.Goals as goal

pub returns : goal.returns
returns c to =
    let x_fits : SFits w32 c.signed-x.result = search rules in
    let y-fits : SFits w32 c.signed-y.result = search rules in
    let told = simp (to_z-of_z x_fits, to_z-of_z y-fits) at (c.reported.ensures to) in
    grid-whole c.args.bytes.now to c.reported.result c.args.at c.signed-x.result c.signed-y.result c.signed-x.ensures c.signed-y.ensures c.if-bytes-taken.false told
