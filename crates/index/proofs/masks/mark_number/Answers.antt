-- `index::masks::mark_number` marks from the band of the low bound to that of the high one, which is no lower. Assumes nothing.
use native.Mathlib.Omega.{arith}
use mathlib.Core.Path.{◌≡◌}
use mir.Syntax.{w32}
use mir.Val.{SFits}
use mir.Facts.{to_z-of_z}
use borrow.Author.Rules.{rules}
use Rattle.index.specs.Axis.{low_of, high_of, band}
use Rattle.index.proofs.Order.{le_trans}
use Rattle.index.proofs.Growing.{band-grows, band-few}
use Rattle.index.proofs.Listing.{marked-with}
use Rattle.index.proofs.masks.mark_number.Goals as goal

pub mark-requires : goal.mark-requires
mark-requires c =
    let low = low_of c.args.bounds.now c.args.d in
    let high = high_of c.args.bounds.now c.args.d in
    let axis = c.args.axis in
    let f : SFits w32 low = search rules in
    let g : SFits w32 high = search rules in
    let above = c.requires.spans.low c.args.d c.requires.d_bound in
    let few = band-few axis high c.requires.spans.axis (le_trans axis.low low high above c.requires.d_value) (c.requires.spans.high c.args.d c.requires.d_bound) in
    let rises = band-grows axis.low axis.shift low high above c.requires.d_value in
    let from = simp (to_z-of_z f) at c.band-from.ensures in
    let to = simp (to_z-of_z g) at c.band-to.ensures in
    (omega (arith, rises, from, to), omega (arith, to, few), c.requires.d_bound)

pub returns-then-size-gt0 : goal.returns-then-size-gt0
returns-then-size-gt0 c =
    let a = c.args in
    let f : SFits w32 (low_of a.bounds.now a.d) = search rules in
    let g : SFits w32 (high_of a.bounds.now a.d) = search rules in
    let from : c.band-from.result ≡ band a.axis.low a.axis.shift (low_of a.bounds.now a.d) = simp (to_z-of_z f) at c.band-from.ensures in
    let to : c.band-to.result ≡ band a.axis.low a.axis.shift (high_of a.bounds.now a.d) = simp (to_z-of_z g) at c.band-to.ensures in
    marked-with a.bounds.now a.column.now.runs.list.now a.axis a.d _ _ a.masks.now _ c.requires.marked from to c.mark.ensures
