-- A run has as many vertices as it says. Assumes nothing.
use Rattle.room.proofs.Written.{run_length}
use Rattle.room.proofs.piece.RunPiece.len.Goals as goal

pub returns-clause-all : goal.returns-clause-all
returns-clause-all c = run_length _ _ _
