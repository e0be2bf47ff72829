-- `ring::counting::each` counts the closing edge, and then the others. Assumes nothing.
use Prim.Native.Nat.{◌-◌}
use native.Mathlib.Omega.{arith}
use mathlib.Core.Path.{ap, subst}
use Rattle.ring.specs.Walk.{head_of, Counts}
use Rattle.ring.proofs.Walks.{counts_all}
use Rattle.ring.proofs.counting.each.Goals as goal

pub returns : goal.returns
returns g c =
    let P = g.R.Ring.points c.args.ring.now in
    let R = head_of c.args.r in
    counts_all P R c.closing-first.result c.stretch.result (omega (arith, c.len.ensures.all, c.len.ensures.least)) (g.met.R.Ring.few c.args.ring.now) c.closing-first.ensures
    (subst (λ k. Counts P R 0 k c.closing-first.result c.stretch.result) (ap (λ k. k - 1) c.len.ensures.all) c.stretch.ensures)
