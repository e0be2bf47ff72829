-- A run's point is a vertex of its ring. Assumes nothing.
use native.Mathlib.Omega.{arith}
use Rattle.ring.proofs.Vertices.{length-vertices}
use Rattle.room.proofs.Written.{run-vertex}
use Rattle.room.proofs.piece.RunPiece.point.Goals as goal

pub returns : goal.returns
returns c = run-vertex _ _ _ _ _ (length-vertices _ _ (omega (arith, c.args.self.now.within.even))) c.requires _ _ c.vertex.ensures c.around.ensures.0
