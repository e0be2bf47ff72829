-- `register::sorting::assign` refuses by 1 and 2, and otherwise answers by the point. Assumes nothing.
use mathlib.Core.Path.{ap, ◌∙◌}
use Rattle.std.proofs.lemmas.Result.{err_from_is_err_and}
use Rattle.districts.specs.Answers.{report}
use Rattle.districts.specs.Held.{lists_of}
use Rattle.districts.proofs.Begun.{begun-formed}
use Rattle.refusals.specs.Verdicts.{verdict}
use Rattle.register.specs.Sorting.{point_tests, given}
use Rattle.register.proofs.Given.{answer-refused, answer-given, store-sorted}
use Rattle.register.proofs.sorting.assign.Goals as goal

pub returns-in_err-store : goal.returns-in_err-store
returns-in_err-store c =
    let p = err_from_is_err_and c.from_residual.result c.from_residual.ensures.1 in
    rw (p.1, p.2) (answer-refused _ _ c.args.number c.args.r.x c.args.r.y _ c.in_err-store.ensures)

pub returns : goal.returns
returns c =
    let r = c.args.r in
    let begun = c.in_ok-store.ensures in
    let lists = lists_of c.args.lists.now in
    c.place.ensures
    ∙ ap (λ b. given (verdict (point_tests r.x r.y)) (report c.args.number b)) (store-sorted lists c.in_ok-store.store (begun-formed lists begun.0) begun.1 r)
    ∙ answer-given _ _ c.args.number r.x r.y begun.0
