-- `ring::counting::blocks`: the closing edge, and after some blocks the first i edges. The measure is the number of edges left. Assumes nothing.
use Prim.Native.Nat.{◌-◌}
use native.Mathlib.Omega.{arith}
use mathlib.Core.Path.{◌≡◌, subst}
use lib.ListN.{length}
use Rattle.ring.specs.Walk.{head_of, Counts, none}
use Rattle.ring.proofs.Walks.{counts-none, counts-more, counts_all}
use Rattle.ring.proofs.counting.blocks.Goals as goal

pub loop-i-init : goal.loop-i-init
loop-i-init g c = (omega arith, counts-none (g.R.Ring.points c.args.ring.now) c.args.r 0 c.closing-count.result)

pub loop-i-preserved : goal.loop-i-preserved
loop-i-preserved g c =
    (omega (arith, c.loop-i-test.true), counts-more (g.R.Ring.points c.args.ring.now) c.args.r _ 16 _ _ c.loop-i.count _ (omega arith) c.loop-i.invariant.1 c.block-count.ensures)

pub returns : goal.returns
returns g c =
    let P = g.R.Ring.points c.args.ring.now in
    let i = c.loop-i.i in
    let n = c.len-last.result - 1 in
    let (within, front) = c.loop-i.invariant in
    let there : head_of c.wide-w.result ≡ c.args.r = c.wide-w.ensures in
    let first : Counts P c.args.r (length P - 1) 1 none c.closing-count.result = subst (λ R. Counts P R (length P - 1) 1 none c.closing-count.result) there c.closing-count.ensures in
    let rest : Counts P c.args.r i (n - i) c.loop-i.count c.stretch.result = subst (λ R. Counts P R i (n - i) c.loop-i.count c.stretch.result) there c.stretch.ensures in
    counts_all P c.args.r _ _ (omega (arith, c.len-last.ensures.all, c.len-last.ensures.least)) (g.met.R.Ring.few c.args.ring.now) first
    (counts-more P c.args.r i (n - i) (length P - 1) _ c.loop-i.count _ (omega (arith, within, c.len-last.ensures.all)) front rest)
