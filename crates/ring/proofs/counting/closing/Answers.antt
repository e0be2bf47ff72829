-- `ring::counting::closing` counts the edge from the last vertex to the first. Assumes nothing.
use Prim.Native.Nat.{◌+◌, ◌-◌, ◌≤◌}
use native.Mathlib.Omega.{arith}
use mathlib.Core.Path.{◌≡◌, sym, ap, subst, ◌∙◌}
use lib.ListN.{length}
use Rattle.ring.specs.Rings.{at}
use Rattle.ring.specs.Walk.{head_of, Sight, none}
use Rattle.ring.proofs.Vertices.{at-end}
use Rattle.ring.proofs.Walks.{counts-edge}
use Rattle.ring.proofs.counting.closing.Goals as goal

pub returns : goal.returns
returns g c =
    let P = g.R.Ring.points c.args.ring.now in
    let n = length P in
    let some : 3 ≤ length P = omega (arith, c.len-last.ensures.all, c.len-last.ensures.least) in
    let last : c.len-last.result - 1 ≡ n - 1 = ap (λ k. k - 1) c.len-last.ensures.all in
    let back : at P 0 ≡ at P (n - 1 + 1) = sym (ap (at P) (let e : n - 1 + 1 ≡ length P = omega (arith, some) in e) ∙ at-end P (omega (arith, some))) in
    counts-edge P (head_of c.args.r) (n - 1) c.seen.result c.seen-2.result none c.along.result
    (subst (λ k. Sight (head_of c.args.r) (at P k) c.seen.result) last c.seen.ensures)
    (subst (λ p. Sight (head_of c.args.r) p c.seen-2.result) back c.seen-2.ensures)
    c.along.ensures
