-- `codes::batches::assign_all` answers all points unless all of it is refused. Assumes nothing.
use mathlib.Core.Path.{sym}
use Rattle.std.proofs.lemmas.Result.{err_from_is_err_and}
use Rattle.districts.specs.Held.{lists_of}
use Rattle.districts.proofs.Begun.{begun-passed, begun-refused}
use Rattle.codes.proofs.Batched.{room-for, batch-left}
use Rattle.codes.proofs.batches.assign_all.Goals as goal

pub returns-in_err-store-clause-judged : goal.returns-in_err-store-clause-judged
returns-in_err-store-clause-judged c =
    let p = err_from_is_err_and c.from_residual.result c.from_residual.ensures.1 in
    rw (p.1, p.2) (begun-refused (lists_of c.args.lists.now) _ c.in_err-store.ensures _)

pub returns-in_err-room-clause-judged : goal.returns-in_err-room-clause-judged
returns-in_err-room-clause-judged c =
    let p = err_from_is_err_and c.from_residual-in_err-room.result c.from_residual-in_err-room.ensures.1 in
    rw (p.1, p.2) (begun-passed (lists_of c.args.lists.now) c.in_ok-store.ensures.0 _ _ c.in_err-room.ensures)

pub answer_all-requires-clause-room : goal.answer_all-requires-clause-room
answer_all-requires-clause-room c = room-for _ _ (sym c.in_ok-room.ensures)

pub returns-clause-judged : goal.returns-clause-judged
returns-clause-judged c = begun-passed (lists_of c.args.lists.now) c.in_ok-store.ensures.0 _ _ c.in_ok-room.ensures

pub returns-clause-answered : goal.returns-clause-answered
returns-clause-answered c =
    let begun = c.in_ok-store.ensures in
    batch-left (lists_of c.args.lists.now) c.args.points.now begun.0 c.in_ok-store.store begun.1 c.args.answers.now _ c.answer_all.ensures
