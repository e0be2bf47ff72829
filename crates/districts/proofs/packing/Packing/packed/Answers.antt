-- `Packing::packed` fills the table and asks where runs start and end. Assumes nothing.
use Prim.Native.Nat.{◌≤◌}
use mathlib.Core.Path.{subst}
use Rattle.districts.proofs.Chains.{both-packed}
use Rattle.districts.proofs.packing.Packing.packed.Goals as goal

pub returns : goal.returns
returns c =
    let is = c.args.self.now.sum in
    both-packed _ _ (subst (λ n. n ≤ 2048) is c.args.self.now.most) c.starts-starts.ensures _ _ _ is c.met.ensures c.all_joined.ensures
