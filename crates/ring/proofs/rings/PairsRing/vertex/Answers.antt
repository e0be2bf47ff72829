-- `Pairs::vertex` reads a pair of the list. Assumes nothing.
use mathlib.Core.Path.{sym, subst}
use Rattle.ring.specs.Walk.{OnGrid}
use Rattle.ring.proofs.OnGrid.{vertex-on-grid}
use Rattle.ring.proofs.rings.PairsRing.vertex.Goals as goal

pub returns-clause-on_grid : goal.returns-clause-on_grid
returns-clause-on_grid c =
    let s = c.args.self.now in
    subst OnGrid (sym c.vertex.ensures) (vertex-on-grid s.list.now s.ring.grid c.args.i)
