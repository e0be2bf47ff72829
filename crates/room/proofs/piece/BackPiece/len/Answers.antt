-- A path of whole points has half as many as it has numbers. Assumes nothing.
use native.Mathlib.Omega.{arith}
use mathlib.Core.Path.{◌∙◌}
use lib.ListN.{length-reverse}
use Rattle.ring.proofs.Vertices.{length-vertices}
use Rattle.room.proofs.piece.BackPiece.len.Goals as goal

pub returns-clause-all : goal.returns-clause-all
returns-clause-all c = length-reverse _ ∙ length-vertices _ _ (omega (arith, c.args.self.now.even))
