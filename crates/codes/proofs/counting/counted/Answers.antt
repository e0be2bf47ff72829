-- `codes::counting::counted` meets its contract. Assumes nothing.
use mathlib.Core.Path.{ap}
use Rattle.std.proofs.lemmas.Result.{err_from_is_err_and}
use Rattle.districts.specs.Answers.{answer_of}
use Rattle.codes.proofs.Places.{counted-as}
use Rattle.codes.proofs.counting.counted.Goals as goal

pub returns-in_err-raise : goal.returns-in_err-raise
returns-in_err-raise c =
    let p = err_from_is_err_and c.from_residual-in_err-raise.result c.from_residual-in_err-raise.ensures.1 in
    rw (p.1, p.2) (counted-as (ap answer_of c.in_ok-report.was) (c.in_err-raise.ensures _ _ c.place.ensures.1))

pub returns : goal.returns
returns c = counted-as (ap answer_of c.in_ok-report.was) (c.in_ok-raise.ensures _ _ c.place.ensures.1)
