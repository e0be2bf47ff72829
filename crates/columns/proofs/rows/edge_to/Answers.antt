-- `columns::rows::edge_to` counts the edge from the vertex before. Assumes nothing.
use Prim.Native.Nat.{ℕ, ◌+◌}
use native.Mathlib.Numerals.{add-one}
use native.Mathlib.Omega.{arith}
use mathlib.Core.Path.{◌≡◌, sym, ap, subst, ◌∙◌}
use lib.ListN.{length}
use Rattle.ring.specs.Columns.{points}
use Rattle.ring.specs.Rings.{at}
use Rattle.ring.specs.Walk.{head_of, Sight}
use Rattle.ring.proofs.Points.{length-points}
use Rattle.ring.proofs.Walks.{counts-edge}
use Rattle.columns.specs.Rows.{preceding}
use Rattle.columns.proofs.Pairs.{preceding-less, preceding-next}
use Rattle.columns.proofs.rows.edge_to.Goals as goal

pub seen-requires-clause-i_in_bounds : goal.seen-requires-clause-i_in_bounds
seen-requires-clause-i_in_bounds c =
    let ring = c.args.ring.now in
    omega (arith, length-points ring.xs.now ring.ys.now ring.ring.even, preceding-less (length ring.xs.now) c.args.j c.requires.j_in_bounds, c.previous-i.ensures)

pub seen-requires-2-clause-i_in_bounds : goal.seen-requires-2-clause-i_in_bounds
seen-requires-2-clause-i_in_bounds c =
    let ring = c.args.ring.now in
    omega (arith, length-points ring.xs.now ring.ys.now ring.ring.even, c.requires.j_in_bounds)

pub returns : goal.returns
returns c =
    let ring = c.args.ring.now in
    let P = points ring.xs.now ring.ys.now in
    let R = head_of c.args.r in
    let n = length ring.xs.now in
    let e = preceding n c.args.j in
    let next : at P c.args.j ≡ at P (e + 1) = sym (ap (at P) (add-one e) ∙ preceding-next P n c.args.j (length-points ring.xs.now ring.ys.now ring.ring.even) c.requires.j_in_bounds) in
    counts-edge P R e c.seen.result c.seen-2.result c.args.c c.along.result
    (subst (λ (i : ℕ). Sight R (at P i) c.seen.result) c.previous-i.ensures c.seen.ensures)
    (subst (λ Q. Sight R Q c.seen-2.result) next c.seen-2.ensures)
    c.along.ensures
