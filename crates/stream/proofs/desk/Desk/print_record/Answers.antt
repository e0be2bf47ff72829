-- `stream::Desk::print_record` meets its contract: a record with its line. The check finds the rest. Assumes nothing.
use Rattle.std.proofs.Common.{refl, arith}
use Rattle.stream.proofs.Turning.{next-there, next-countable, goes_on}
use Rattle.stream.proofs.desk.Desk.print_record.Goals as goal

pub overflow_add-p : goal.overflow_add-p
overflow_add-p c =
    let there = next-there c.args.bytes.now c.args.p.now _ _ _ _ _ _ c.in-Ok-Some.field-0-is _ _ c.in-Ok-Some.ensures.advanced c.requires.ready.there in
    record { fits = omega (arith, there, c.requires.ready.long) }

pub overflow_add-p-in-Ok-Some : goal.overflow_add-p-in-Ok-Some
overflow_add-p-in-Ok-Some c =
    record { fits = next-countable c.args.bytes.now c.args.p.now _ _ _ _ _ _ c.in-Ok-Some.field-0-is _ _ c.in-Ok-Some.ensures.advanced c.requires.ready.countable }

pub returns-in-Ok-Some-clause-turned : goal.returns-in-Ok-Some-clause-turned
returns-in-Ok-Some-clause-turned c =
    goes_on c.args.bytes.now _ _ _ _ _ _ _ c.in-Ok-Some.field-0-is _ _ c.in-Ok-Some.ensures.advanced _ _ _ c.args.self.now.form (omega arith) refl refl c.line_at-p.ensures
