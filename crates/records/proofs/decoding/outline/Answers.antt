-- `records::decoding::outline` answers what its pairs tell. Assumes nothing.
use Rattle.std.proofs.lemmas.Result.{err_from_is_err_and}
use Rattle.history.specs.Histories.{founding}
use Rattle.records.proofs.Fronts.{no-pairs, broken-pairs, all-pairs, outline-whole}
use Rattle.records.proofs.decoding.outline.Goals as goal

pub returns-in_err-n : goal.returns-in_err-n
returns-in_err-n c =
    let p = err_from_is_err_and c.from_residual.result c.from_residual.ensures.1 in
    rw (p.1, p.2) (broken-pairs c.args.bytes.now 5 founding _ _ _ c.in_err-n.ensures)

pub returns-in_default : goal.returns-in_default
returns-in_default c = no-pairs c.args.bytes.now 5 founding _ _ _ c.in_default.is c.in_ok-n.ensures

pub returns : goal.returns
returns c = outline-whole c.args.bytes.now _ _ c.in-Some.n (all-pairs _ _ _ _ _ _ c.in-Some.is c.in_ok-n.ensures)
