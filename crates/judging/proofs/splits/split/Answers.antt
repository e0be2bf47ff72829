-- `judging::splits::split` judges the store of lists that are well-formed. Assumes nothing.
use mathlib.Core.Path.{refl, sym, ap, transport, ◌∙◌}
use Rattle.std.proofs.lemmas.Result.{err_from_is_err_and}
use Rattle.refusals.specs.Verdicts.{verdict}
use Rattle.districts.specs.Lent.{outline_of, store_of, formed}
use Rattle.districts.specs.Held.{lists_of}
use Rattle.districts.proofs.Begun.{begun-formed, begun-passed, begun-refused}
use Rattle.room.proofs.Forms.{sound}
use Rattle.judging.specs.Judging.{lowest_free, district_tests, Judged}
use Rattle.judging.proofs.Judged.{free-is, tests-are}
use Rattle.judging.proofs.splits.split.Goals as goal

pub returns-in_err-store : goal.returns-in_err-store
returns-in_err-store c =
    let p = err_from_is_err_and c.from_residual.result c.from_residual.ensures.1 in
    rw (p.1, p.2) (sym (begun-refused (lists_of c.args.lists.now) _ c.in_err-store.ensures _))

pub returns : goal.returns
returns c =
    let begun = c.in_ok-store.ensures in
    let l = lists_of c.args.lists.now in
    let a = c.args in
    let facts = sound l (begun-formed l begun.0) in
    let tests =
    ap (λ r. verdict (district_tests r a.cut.d a.cut.i a.cut.j a.path.now)) begun.1.2
    ∙ begun-passed l begun.0 _ _ refl
    ∙ ap verdict (sym (tests-are (outline_of l) (store_of l) l.runs facts a.cut.d a.cut.i a.cut.j a.path.now (formed l))) in
    let free = ap lowest_free begun.1.2 ∙ sym (free-is (outline_of l) (store_of l) l.runs facts) in
    transport (λ t. Judged c.judged.result (tests t) (free t)) c.judged.ensures
