-- The path's points are read from the last on. Assumes nothing.
use Prim.Native.Nat.{◌-◌, ◌/◌}
use native.Mathlib.Omega.{arith}
use mathlib.Core.Path.{◌≡◌, sym, ap, ◌∙◌}
use lib.ListN.{length}
use Rattle.ring.specs.Grid.{vertices}
use Rattle.ring.specs.Rings.{at}
use Rattle.ring.proofs.Vertices.{length-vertices}
use Rattle.room.proofs.Written.{back-vertex}
use Rattle.room.proofs.piece.BackPiece.point.Goals as goal

pub returns : goal.returns
returns c =
    let path = c.args.self.now.path.now in
    let many : length (vertices path) ≡ length path / 2 = length-vertices path _ (omega (arith, c.args.self.now.even)) in
    c.vertex.ensures ∙ ap (λ n. at (vertices path) (n - 1 - c.args.k)) (sym many) ∙ back-vertex (vertices path) c.args.k (omega (arith, many, c.requires))
