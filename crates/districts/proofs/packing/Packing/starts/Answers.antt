-- `Packing::starts` clears the table and marks one number after the other, until all vertices are seen. Assumes nothing.
use Prim.Native.Nat.{◌+◌, ◌≤◌}
use native.Mathlib.Omega.{arith}
use mathlib.Core.Path.{refl}
use Rattle.districts.specs.Lists.{size}
use Rattle.districts.specs.WellFormed.{total}
use Rattle.districts.proofs.Counting.{sum-none, sum_more, sum-with, rest-none}
use Rattle.districts.proofs.Marks.{marked-none, marked-rest}
use Rattle.districts.proofs.packing.Packing.starts.Goals as goal

pub loop-d-init : goal.loop-d-init
loop-d-init c = (marked-none _ 2048 refl, sum-none _)

pub overflow_add-seen : goal.overflow_add-seen
overflow_add-seen c =
    let self = c.args.self.now in
    let few : c.loop-d.seen + c.size-seen.result ≤ total self.runs.list.now = sum-with (size self.runs.list.now) 64 _ _ _ c.loop-d.invariant.1 c.loop-d-test.true c.size-seen.ensures.0 in
    omega (arith, self.sum, self.most)

pub loop-d-preserved : goal.loop-d-preserved
loop-d-preserved c = (c.mark.ensures, sum_more _ _ _ _ c.loop-d.invariant.1 c.size-seen.ensures.0)

pub returns-then-seen-self : goal.returns-then-seen-self
returns-then-seen-self c =
    let self = c.args.self.now in
    marked-rest _ _ _ c.loop-d.invariant.0 (omega (arith, c.loop-d-test.true)) (rest-none (size self.runs.list.now) 64 _ _ c.loop-d.invariant.1 (omega (arith, c.if-seen-self.true, self.sum)))
