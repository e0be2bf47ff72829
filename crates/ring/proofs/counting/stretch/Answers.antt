-- `ring::counting::stretch`: after j edges the count is that of j edges, and the end is vertex i + j. Assumes nothing.
use Prim.Native.Nat.{◌+◌}
use native.Mathlib.Nat.{add_assoc, add-zero}
use native.Mathlib.Omega.{arith}
use mathlib.Core.Path.{sym, subst}
use Rattle.ring.specs.Rings.{at}
use Rattle.ring.specs.Walk.{head_of, Sight, Counts}
use Rattle.ring.proofs.Walks.{counts-none, counts-edge, counts-on}
use Rattle.ring.proofs.counting.stretch.Goals as goal

pub loop-j-init : goal.loop-j-init
loop-j-init g c =
    let a = c.args in
    let P = g.R.Ring.points a.ring.now in
    (counts-none P (head_of a.r) a.i a.c, subst (λ m. Sight (head_of a.r) (at P m) c.seen-from.result) (sym (add-zero a.i)) c.seen-from.ensures)

pub loop-j-preserved : goal.loop-j-preserved
loop-j-preserved g c =
    let a = c.args in
    let P = g.R.Ring.points a.ring.now in
    let i = a.i in
    let j = c.loop-j.j in
    let (counts, sight) = c.loop-j.invariant in
    let ahead = c.seen-to.ensures in (
      counts-on P (head_of a.r) i j 1 a.c c.loop-j.count c.along-count.result counts (counts-edge P (head_of a.r) (i + j) c.loop-j.from c.seen-to.result c.loop-j.count c.along-count.result sight ahead c.along-count.ensures),
      subst (λ m. Sight (head_of a.r) (at P m) c.seen-to.result) (add_assoc i j 1) ahead,
    )

pub returns : goal.returns
returns g c =
    let a = c.args in
    let (counts, sight) = c.loop-j.invariant in
    subst (λ m. Counts (g.R.Ring.points a.ring.now) (head_of a.r) a.i m a.c c.loop-j.count) (omega (arith, c.loop-j-test.false)) counts
