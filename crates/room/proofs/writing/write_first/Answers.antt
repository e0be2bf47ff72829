-- `writing::write_first` writes one point after the other. Assumes nothing.
use native.Mathlib.Nat.{zero-add}
use native.Mathlib.Omega.{arith}
use mathlib.Core.Path.{sym, ap, ◌∙◌}
use lib.ListN.{set}
use Rattle.room.proofs.Written.{put-more}
use Rattle.room.proofs.writing.write_first.Goals as goal

pub loop-k-preserved : goal.loop-k-preserved
loop-k-preserved g c =
    let size = c.len-k-end.ensures in
    let p = c.point.result in
    let k = sym (zero-add c.loop-k.k) in
    put-more (g.P.Piece.points c.args.piece.now) c.args.xs.now c.args.ys.now c.loop-k.xs c.loop-k.ys 0 c.loop-k.k p _ _
    (omega (arith, size.many, size.all, c.loop-k-test.true)) (omega (arith, size.all, c.requires)) (omega (arith, size.all, c.requires)) c.point.ensures
    (c.put.ensures.0 ∙ ap (λ m. set c.loop-k.xs m p.x) k) (c.put.ensures.1 ∙ ap (λ m. set c.loop-k.ys m p.y) k) c.loop-k.invariant
