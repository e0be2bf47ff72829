-- `stream::Desk::print` meets its contract: record by record, until there is no room or no whole record. Assumes nothing.
use Rattle.std.proofs.Common.{arith}
use Rattle.stream.proofs.Pages.{printed-none, printed-more, ready, onward}
use Rattle.stream.proofs.desk.Desk.print.Goals as goal

pub loop-stop-init : goal.loop-stop-init
loop-stop-init c = (printed-none _ _ _ _ _ _ c.args.self.now.form, c.requires.fit)

pub print_record-requires-clause-ready : goal.print_record-requires-clause-ready
print_record-requires-clause-ready c = ready _ _ _ _ _ _ _ _ _ _ c.loop-stop.invariant.0 c.loop-stop.auto.to c.requires.countable

pub loop-stop-smaller : goal.loop-stop-smaller
loop-stop-smaller c =
    let so_far = c.loop-stop.invariant.0 in
    let wrote = c.in_default.ensures.turned in
    let next = printed-more _ _ _ _ _ _ _ _ _ _ so_far _ _ _ _ _ c.loop-stop.auto.to wrote in
    omega (arith, onward _ _ _ _ _ _ _ _ _ _ so_far _ _ _ _ _ c.loop-stop.auto.to wrote, next.there)

pub loop-stop-preserved : goal.loop-stop-preserved
loop-stop-preserved c = (printed-more _ _ _ _ _ _ _ _ _ _ c.loop-stop.invariant.0 _ _ _ _ _ c.loop-stop.auto.to c.in_default.ensures.turned, c.in_default.ensures.fit)
