-- `records::decoding::split` answers what its pairs tell, with the fields before them. Assumes nothing.
use Rattle.std.proofs.Common.{arith}
use Rattle.std.proofs.lemmas.Result.{err_from_is_err_and}
use Rattle.records.proofs.Reading.{one_byte}
use Rattle.records.proofs.Fronts.{no-pairs, broken-pairs, all-pairs, splits, split-whole}
use Rattle.records.proofs.decoding.split.Goals as goal

pub returns-in_err-k : goal.returns-in_err-k
returns-in_err-k c =
    let bytes = c.args.bytes.now in
    let p = err_from_is_err_and c.from_residual.result c.from_residual.ensures.1 in
    rw (p.1, p.2) (broken-pairs bytes 10 (splits bytes) _ _ _ c.in_err-k.ensures)

pub returns-in_default : goal.returns-in_default
returns-in_default c = no-pairs c.args.bytes.now 10 (splits c.args.bytes.now) _ _ _ c.in_default.is c.in_ok-k.ensures

pub returns : goal.returns
returns c =
    let bytes = c.args.bytes.now in
    let all = all-pairs bytes 10 _ _ _ _ c.in-Some.is c.in_ok-k.ensures in
    split-whole bytes _ _ _ c.in-Some.k (one_byte bytes 3 (omega (arith, all.there))) c.two.ensures c.two-2.ensures all
