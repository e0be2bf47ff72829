-- `exports::launchramp_assign_fix` meets its contract. The check finds this alone; written out, it is refused as soon as the two values are exchanged, and not by a limit. Assumes nothing.
use mathlib.Core.Path.{subst}
use Rattle.codes.specs.Codes.{answer_code, Tells}
use Rattle.exports.proofs.launchramp_assign_fix.Goals as goal

pub returns : goal.returns
returns c = subst (λ a. Tells c.assigned.result c.assigned.new.values (answer_code a)) c.assign_at.ensures c.assigned.ensures
