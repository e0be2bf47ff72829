-- `Columns::vertex` reads both columns at one place. Assumes nothing.
use Prim.Native.Nat.{◌<◌}
use native.Mathlib.Omega.{arith}
use mathlib.Core.Path.{sym, subst}
use lib.ListN.{length}
use Rattle.ring.specs.Walk.{OnGrid}
use Rattle.ring.proofs.Points.{length-points, column-on-grid}
use Rattle.ring.proofs.rings.ColumnsRing.vertex.Goals as goal

pub vertex_of-requires : goal.vertex_of-requires
vertex_of-requires c = let s = c.args.self.now in (omega (arith, length-points s.xs.now s.ys.now s.ring.even), s.ring.even)

pub returns-clause-on_grid : goal.returns-clause-on_grid
returns-clause-on_grid c =
    let s = c.args.self.now in
    let low : c.args.i < length s.xs.now = omega (arith, length-points s.xs.now s.ys.now s.ring.even) in
    subst OnGrid (sym c.vertex_of.ensures) (column-on-grid s.xs.now s.ys.now c.args.i s.ring low)
