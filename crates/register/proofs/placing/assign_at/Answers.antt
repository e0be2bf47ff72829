-- `register::placing::assign_at` refuses by 1 and 2, and otherwise answers by where the position is. Assumes nothing.
use mathlib.Core.Path.{ap, ◌∙◌}
use Rattle.std.proofs.lemmas.Result.{err_from_is_err_and}
use Rattle.districts.specs.Answers.{report}
use Rattle.districts.specs.Held.{lists_of}
use Rattle.districts.proofs.Begun.{begun-formed}
use Rattle.refusals.specs.Verdicts.{verdict}
use Rattle.register.specs.Sorting.{point_tests, given}
use Rattle.register.proofs.Given.{store-sorted}
use Rattle.register.proofs.ByPosition.{spot-taken, spot-refused, begun-first}
use Rattle.register.proofs.placing.assign_at.Goals as goal

pub returns-in_err-store : goal.returns-in_err-store
returns-in_err-store c =
    let p = err_from_is_err_and c.from_residual.result c.from_residual.ensures.1 in
    rw (p.1, p.2) (begun-first _ _ c.args.number c.args.position _ c.in_err-store.ensures)

pub returns-in_err-spot_of : goal.returns-in_err-spot_of
returns-in_err-spot_of c =
    let p = err_from_is_err_and c.from_residual-in_err-spot_of.result c.from_residual-in_err-spot_of.ensures.1 in
    rw (p.1, p.2) (spot-refused _ _ c.args.number c.args.position _ c.in_err-spot_of.ensures c.in_ok-store.ensures.0)

pub returns : goal.returns
returns c =
    let r = c.in_ok-spot_of.field-0 in
    let begun = c.in_ok-store.ensures in
    let lists = lists_of c.args.lists.now in
    c.place.ensures
    ∙ ap (λ b. given (verdict (point_tests r.x r.y)) (report c.args.number b)) (store-sorted lists c.in_ok-store.store (begun-formed lists begun.0) begun.1 r)
    ∙ spot-taken _ _ c.args.number c.args.position r c.in_ok-spot_of.ensures begun.0
