-- `columns::rows::scanned` counts the two edges that cross the row, if there are no more; otherwise all. Assumes nothing.
use native.Mathlib.Omega.{arith}
use mathlib.Core.Path.{subst}
use lib.ListN.{length}
use Rattle.ring.specs.declared.Point.{Point}
use Rattle.ring.specs.Columns.{points}
use Rattle.ring.specs.Walk.{Counts, none}
use Rattle.ring.proofs.OnGrid.{held}
use Rattle.columns.specs.Rows.{preceding, rises_to, falls_to, Scanned}
use Rattle.columns.proofs.Scans.{only_one}
use Rattle.columns.proofs.Pairs.{counted-twice}
use Rattle.columns.proofs.rows.scanned.Goals as goal

pub edge_to-risen-requires-clause-j_in_bounds : goal.edge_to-risen-requires-clause-j_in_bounds
edge_to-risen-requires-clause-j_in_bounds c =
    let ys = c.args.ring.now.ys.now in
    let told : Scanned ys c.args.r.y c.scan-s.result = subst (λ v. Scanned ys v c.scan-s.result) (held _ c.requires.up) c.scan-s.ensures in
    let up = only_one (rises_to ys c.args.r.y) (length ys) c.scan-s.result.rises c.to.result told.rises (c.twice.ensures c.if-twice.true).rises c.to.ensures in
    omega (arith, up.within, c.args.ring.now.ring.even)

pub edge_to-requires-clause-j_in_bounds : goal.edge_to-requires-clause-j_in_bounds
edge_to-requires-clause-j_in_bounds c =
    let ys = c.args.ring.now.ys.now in
    let told : Scanned ys c.args.r.y c.scan-s.result = subst (λ v. Scanned ys v c.scan-s.result) (held _ c.requires.up) c.scan-s.ensures in
    let down = only_one (falls_to ys c.args.r.y) (length ys) c.scan-s.result.falls c.to-then-twice.result told.falls (c.twice.ensures c.if-twice.true).falls c.to-then-twice.ensures in
    omega (arith, down.within, c.args.ring.now.ring.even)

pub returns-then-twice : goal.returns-then-twice
returns-then-twice c =
    let xs = c.args.ring.now.xs.now in
    let ys = c.args.ring.now.ys.now in
    let told : Scanned ys c.args.r.y c.scan-s.result = subst (λ v. Scanned ys v c.scan-s.result) (held _ c.requires.up) c.scan-s.ensures in
    let crossed = c.twice.ensures c.if-twice.true in
    let up = c.to.result in
    let down = c.to-then-twice.result in
    counted-twice xs ys c.args.r c.args.ring.now.ring c.scan-s.result told crossed up down c.to.ensures c.to-then-twice.ensures c.edge_to-risen.result c.edge_to.result
    (subst (λ (R : Point). Counts (points xs ys) R (preceding (length xs) up) 1 none c.edge_to-risen.result) c.wide-w.ensures c.edge_to-risen.ensures)
    (subst (λ (R : Point). Counts (points xs ys) R (preceding (length xs) down) 1 c.edge_to-risen.result c.edge_to.result) c.wide-w.ensures c.edge_to.ensures)
