-- `ring::walk::locate_on` counts by blocks, and looks for places only where some determinant was 0. Assumes nothing.
use native.Mathlib.Omega.{arith}
use mathlib.Core.Path.{ap, ◌∙◌}
use Rattle.ring.specs.declared.Point.{Point}
use Rattle.ring.specs.Grid.{vertices}
use Rattle.ring.specs.Walk.{met_at}
use Rattle.ring.proofs.Settled.{clear-off, settled}
use Rattle.ring.proofs.walk.locate_on.Goals as goal

pub returns-then-c-eq0 : goal.returns-then-c-eq0
returns-then-c-eq0 c =
    let P = vertices c.args.ring.now.list.now in
    c.found.ensures ∙ settled P c.args.r c.blocks_of_list-c.result c.blocks_of_list-c.ensures c.find.result (c.find.ensures ∙ ap (λ (R : Point). met_at P R) c.wide.ensures)

pub returns : goal.returns
returns c = c.off.ensures ∙ clear-off (vertices c.args.ring.now.list.now) c.args.r c.blocks_of_list-c.result c.blocks_of_list-c.ensures (omega (arith, c.if-c-eq0.false))
