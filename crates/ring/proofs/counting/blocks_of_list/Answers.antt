-- `ring::counting::blocks_of_list`: the closing edge, and after some blocks the first i edges. The measure is the number of edges left. Assumes nothing.
use Prim.Native.Nat.{◌-◌}
use native.Mathlib.Omega.{arith}
use mathlib.Core.Path.{◌≡◌, refl, subst}
use lib.ListN.{length}
use Rattle.ring.specs.Grid.{vertices}
use Rattle.ring.specs.Walk.{head_of, Counts, none}
use Rattle.ring.proofs.Walks.{counts-none, counts-more, counts_all}
use Rattle.ring.proofs.counting.blocks_of_list.Goals as goal

pub loop-i-init : goal.loop-i-init
loop-i-init c = (omega arith, counts-none (vertices c.args.ring.now.list.now) c.args.r 0 c.closing-count.result)

pub loop-i-preserved : goal.loop-i-preserved
loop-i-preserved c =
    (omega arith, counts-more (vertices c.args.ring.now.list.now) c.args.r _ _ _ _ c.loop-i.count _ refl c.loop-i.invariant.1 c.block-count.ensures)

pub returns : goal.returns
returns c =
    let P = vertices c.args.ring.now.list.now in
    let (within, front) = c.loop-i.invariant in
    let there : head_of c.wide.result ≡ c.args.r = c.wide.ensures in
    let first : Counts P c.args.r (length P - 1) 1 none c.closing-count.result = subst (λ R. Counts P R (length P - 1) 1 none c.closing-count.result) there c.closing-count.ensures in
    counts_all P c.args.r _ _ (omega (arith, c.len-last.ensures.all, c.len-last.ensures.least)) c.args.ring.now.ring.most first
    (subst (λ i. Counts P c.args.r 0 i c.closing-count.result c.loop-i.count) (omega (arith, within, c.loop-i-test.false, c.len-last.ensures.all)) front)
