-- `stream::Desk::new` meets its contract: runs that are all 0 hold an empty register. Assumes nothing.
use Rattle.std.proofs.Common.{refl}
use Rattle.districts.specs.Counts.{list_to}
use Rattle.history.proofs.Fresh.{fresh-lists}
use Rattle.stream.proofs.desk.Desk.new.Goals as goal

pub invariant_of-result : goal.invariant_of-result
unfolding list_to
invariant_of-result c = record { form = (fresh-lists _ _ _ _ (refl, refl) (refl, refl)).0 }

pub returns-clause-lists : goal.returns-clause-lists
unfolding list_to
returns-clause-lists c = fresh-lists _ _ _ _ (refl, refl) (refl, refl)
