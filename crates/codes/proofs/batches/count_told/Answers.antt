-- `codes::batches::count_told` leaves a refusal alone, and counts any other answer. Assumes nothing.
use Rattle.codes.proofs.Batched.{raised-told, full-told}
use Rattle.codes.proofs.batches.count_told.Goals as goal

pub returns-in-Err : goal.returns-in-Err
returns-in-Err c =
    let a = c.args in
    full-told a.answers.now a.counts.now c.raise.new.counts c.place_told.result c.if-kind.false c.place_told.ensures.1 c.in-Err.full _ c.tell.ensures c.in-Err.ensures

pub returns-in_default : goal.returns-in_default
returns-in_default c =
    let a = c.args in
    raised-told a.answers.now a.counts.now c.raise.new.counts c.place_told.result c.if-kind.false c.place_told.ensures.1 c.in_default.field-0 c.in_default.ensures
