-- `index::masks::listed` reads the mask of the band, if the number is on the axis. Assumes nothing.
use native.Mathlib.Omega.{arith}
use mathlib.Core.Path.{◌≡◌}
use mathlib.Core.Bool.{true}
use lib.Signed.{le_z}
use mir.Syntax.{w32}
use mir.Val.{SFits}
use mir.Facts.{to_z-of_z}
use borrow.Author.Rules.{rules}
use Rattle.std.proofs.lemmas.Int.{ints}
use Rattle.index.proofs.Growing.{band-few}
use Rattle.index.proofs.masks.listed.Goals as goal

pub bounds-masks-band : goal.bounds-masks-band
bounds-masks-band c =
    let a = c.args in
    let f : SFits w32 a.axis.low = search rules in
    let g : SFits w32 a.axis.high = search rules in
    let beyond = simp (to_z-of_z f, to_z-of_z g, to_z-of_z c.ranges.v) at c.if-v-axis.false in
    let from : le_z a.axis.low a.v ≡ true = grind (arith, ints) in
    let to : le_z a.v a.axis.high ≡ true = grind (arith, ints) in
    omega (arith, simp (to_z-of_z c.ranges.v) at c.band.ensures, band-few a.axis a.v c.requires from to)
