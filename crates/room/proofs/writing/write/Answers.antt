-- `writing::write` lends the tails of both columns. Assumes nothing.
use native.Mathlib.Omega.{arith}
use Rattle.room.proofs.Written.{tails-written}
use Rattle.room.proofs.writing.write.Goals as goal

pub returns : goal.returns
returns g c =
    let a = c.args in
    tails-written a.xs.now a.ys.now _ _ a.at (g.P.Piece.points a.piece.now) (omega (arith, c.requires)) (omega (arith, c.requires)) c.write_first.ensures
