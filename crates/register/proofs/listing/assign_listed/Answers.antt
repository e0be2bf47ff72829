-- `register::listing::assign_listed` refuses by 2, and otherwise answers by where the position is. Assumes nothing.
use mathlib.Core.Path.{sym, ap, ◌∙◌}
use mathlib.Core.Bool.{true}
use lib.Dec.{eqb}
use borrow.Author.Tests.{eq-eqb, ne_eqb}
use Rattle.std.proofs.lemmas.Result.{err_from_is_err_and}
use Rattle.ring.specs.Columns.{points}
use Rattle.districts.specs.Answers.{report}
use Rattle.refusals.specs.Verdicts.{verdict}
use Rattle.register.specs.Sorting.{point_tests, given}
use Rattle.register.proofs.Given.{none-begun, some-begun, sorted-by}
use Rattle.register.proofs.ByPosition.{spot-taken, spot-refused, begun-first}
use Rattle.register.proofs.listing.assign_listed.Goals as goal

pub returns-then-outline_size-eq0 : goal.returns-then-outline_size-eq0
returns-then-outline_size-eq0 c outline =
    let s = c.args.store.now in
    begun-first true _ c.args.number c.args.position 2 (none-begun outline (points s.sx.now s.sy.now) s.runs.list.now (ap (λ n. eqb n 0) (sym c.outline_size.ensures.0) ∙ eq-eqb _ 0 c.if-outline_size-eq0.true))

pub returns-in_err-spot_of : goal.returns-in_err-spot_of
returns-in_err-spot_of c outline =
    let s = c.args.store.now in
    let p = err_from_is_err_and c.from_residual.result c.from_residual.ensures.1 in
    let begun = some-begun outline (points s.sx.now s.sy.now) s.runs.list.now (ap (λ n. eqb n 0) (sym c.outline_size.ensures.0) ∙ ne_eqb _ 0 c.if-outline_size-eq0.false) in
    rw (p.1, p.2) (spot-refused true _ c.args.number c.args.position _ c.in_err-spot_of.ensures begun)

pub returns : goal.returns
returns c outline =
    let s = c.args.store.now in
    let r = c.in_ok-spot_of.field-0 in
    let begun = some-begun outline (points s.sx.now s.sy.now) s.runs.list.now (ap (λ n. eqb n 0) (sym c.outline_size.ensures.0) ∙ ne_eqb _ 0 c.if-outline_size-eq0.false) in
    c.place_listed.ensures
    ∙ ap (λ b. given (verdict (point_tests r.x r.y)) (report c.args.number b)) (sorted-by outline (points s.sx.now s.sy.now) s.runs.list.now s.runs.long r)
    ∙ spot-taken true _ c.args.number c.args.position r c.in_ok-spot_of.ensures begun
