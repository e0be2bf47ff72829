-- `ring::counting::block` passes over edges that r's row or column misses, and goes along the others. Assumes nothing.
use Prim.Native.Nat.{◌+◌}
use mathlib.Core.Path.{subst}
use Rattle.ring.specs.declared.Point.{Point}
use Rattle.ring.specs.Rings.{at}
use Rattle.ring.specs.Walk.{Sight}
use Rattle.ring.proofs.Walks.{counts_past}
use Rattle.ring.proofs.counting.block.Goals as goal

pub returns-then-is_aside : goal.returns-then-is_aside
returns-then-is_aside g c =
    let P = g.R.Ring.points c.args.ring.now in
    let i = c.args.i in
    let k = c.args.k in
    let told = c.past.ensures in
    counts_past P c.args.r i k c.seen.result c.seen-then-is_aside.result c.args.c c.past.result
    c.requires.k_nonzero.0
    (c.is_aside.ensures c.if-is_aside.true)
    (subst (λ (R : Point). Sight R (at P i) c.seen.result) c.wide-w.ensures c.seen.ensures)
    (subst (λ (R : Point). Sight R (at P (i + k)) c.seen-then-is_aside.result) c.wide-w.ensures c.seen-then-is_aside.ensures)
    told.0
    told.1
