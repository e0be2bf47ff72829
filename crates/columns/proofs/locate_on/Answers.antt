-- `columns::locate_on` counts, and looks for places only where some determinant was 0. Assumes nothing.
use native.Mathlib.Omega.{arith}
use mathlib.Core.Path.{ap, ◌∙◌}
use Rattle.ring.specs.declared.Point.{Point}
use Rattle.ring.specs.Columns.{points}
use Rattle.ring.specs.Walk.{met_at}
use Rattle.ring.proofs.Settled.{clear-off, settled}
use Rattle.columns.proofs.locate_on.Goals as goal

pub returns-then-c-eq0 : goal.returns-then-c-eq0
returns-then-c-eq0 c =
    let P = points c.args.ring.now.xs.now c.args.ring.now.ys.now in
    c.found.ensures ∙ settled P c.args.r c.around-c.result c.around-c.ensures c.find.result (c.find.ensures ∙ ap (λ (R : Point). met_at P R) c.wide.ensures)

pub returns : goal.returns
returns c = c.off.ensures ∙ clear-off (points c.args.ring.now.xs.now c.args.ring.now.ys.now) c.args.r c.around-c.result c.around-c.ensures (omega (arith, c.if-c-eq0.false))
