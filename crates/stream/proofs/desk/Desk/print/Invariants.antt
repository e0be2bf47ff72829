-- `stream::Desk::print` meets its contract: record by record, until there is no room or no whole record. Assumes nothing.
use Rattle.std.specs.Prelude.{◌-◌, length}
use Rattle.stream.specs.Desks.{desk_of}
use Rattle.stream.specs.Held.{lists_at, Fit}
use Rattle.stream.specs.Printing.{Printed}
use Rattle.stream.proofs.desk.Desk.print.Given as goal

abbrev pub invariant-loop-stop : goal.invariant-loop-stop
invariant-loop-stop l = Printed l.bytes (desk_of (lists_at l.initial.self) l.initial.self.tally) l.number l.initial.coordinates l.initial.to l.progress (lists_at l.self) l.self.tally l.coordinates l.to
    × Fit l.self

abbrev pub decreases-loop-stop : goal.decreases-loop-stop
decreases-loop-stop l = length l.bytes - l.progress.at
