-- `judging::matching::merge` judges the store of lists that are well-formed. Assumes nothing.
use mathlib.Core.Path.{◌∙◌}
use Rattle.std.proofs.lemmas.Result.{err_from_is_err_and}
use Rattle.refusals.specs.Verdicts.{verdict}
use Rattle.districts.specs.Held.{lists_of}
use Rattle.districts.proofs.Begun.{begun-formed, begun-passed, begun-refused}
use Rattle.judging.specs.Judging.{pair_tests}
use Rattle.judging.proofs.Judged.{store_slot}
use Rattle.judging.proofs.matching.merge.Goals as goal

pub returns-in_err-store : goal.returns-in_err-store
returns-in_err-store c =
    let p = err_from_is_err_and c.from_residual.result c.from_residual.ensures.1 in
    rw (p.1, p.2) (begun-refused (lists_of c.args.lists.now) _ c.in_err-store.ensures _)

pub returns : goal.returns
returns c =
    let begun = c.in_ok-store.ensures in
    let l = lists_of c.args.lists.now in
    let s = c.args.seam in
    let slots = store_slot l c.in_ok-store.store (begun-formed l begun.0) begun.1 in
    begun-passed l begun.0 _ _ (c.judge_pair.ensures ∙ (λ t. verdict (pair_tests (slots s.kept t) (slots s.gone t) s.kept s.a s.gone s.b s.k)))
