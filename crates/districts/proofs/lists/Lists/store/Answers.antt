-- `Lists::store` hands on what well-formed lists have. Assumes nothing.
use Rattle.districts.specs.Held.{lists_of}
use Rattle.districts.proofs.Lent.{good-runs}
use Rattle.districts.proofs.Sound.{runs-length}
use Rattle.districts.proofs.lists.Lists.store.Goals as goal

pub invariant_of-result : goal.invariant_of-result
invariant_of-result c = record { long = runs-length (lists_of c.args.self.now) c.requires }

pub invariant_of-result-2 : goal.invariant_of-result-2
invariant_of-result-2 c = record { good = good-runs (lists_of c.args.self.now) c.requires }
