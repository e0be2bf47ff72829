-- `Packing::all_joined` asks one number after the other, until all vertices are seen. Assumes nothing.
use Prim.Native.Nat.{◌+◌, ◌≤◌}
use native.Mathlib.Omega.{arith}
use mathlib.Core.Path.{◌∙◌}
use borrow.Author.Tests.{eq-eqb}
use Rattle.districts.specs.Lists.{size}
use Rattle.districts.specs.Places.{joined}
use Rattle.districts.specs.WellFormed.{total}
use Rattle.districts.proofs.Counting.{all_none, all_more, all_rest, sum-none, sum_more, sum-with, rest-none}
use Rattle.districts.proofs.Tests.{passes-left}
use Rattle.districts.proofs.packing.Packing.all_joined.Goals as goal

pub loop-d-init : goal.loop-d-init
loop-d-init c = (all_none _, sum-none _)

pub overflow_add-seen : goal.overflow_add-seen
overflow_add-seen c =
    let self = c.args.self.now in
    let few : c.loop-d.seen + c.size-seen.result ≤ total self.runs.list.now = sum-with (size self.runs.list.now) 64 _ _ _ c.loop-d.invariant.1 c.loop-d-test.true c.size-seen.ensures.0 in
    omega (arith, self.sum, self.most)

pub loop-d-preserved : goal.loop-d-preserved
loop-d-preserved c = (all_more _ _ _ _ c.loop-d.invariant.0 c.joined-good.ensures, sum_more _ _ _ _ c.loop-d.invariant.1 c.size-seen.ensures.0)

pub returns-then-seen-self : goal.returns-then-seen-self
returns-then-seen-self c =
    let self = c.args.self.now in
    let none = rest-none (size self.runs.list.now) 64 _ _ c.loop-d.invariant.1 (omega (arith, c.if-seen-self.true, self.sum)) in
    c.loop-d.invariant.0 ∙ all_rest (joined self.runs.list.now c.args.starts.now self.all) 64 _ (omega (arith, c.loop-d-test.true)) (λ k h l. passes-left (eq-eqb _ 0 (none k h l)) _)
