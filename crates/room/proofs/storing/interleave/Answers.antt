-- `storing::interleave` writes the two numbers of one point after the other. Assumes nothing.
use Prim.Native.Nat.{◌+◌}
use native.Mathlib.Omega.{arith}
use mathlib.Core.Path.{◌≡◌}
use lib.IntN.{pos}
use lib.ListN.{length, get_or, length-set}
use mir.Syntax.{w32}
use mir.Val.{SFits}
use mir.Facts.{to_z-of_z}
use borrow.Author.Rules.{rules}
use Rattle.ring.specs.Columns.{points}
use Rattle.ring.proofs.Points.{length-points}
use Rattle.room.specs.Writing.{numbers_of}
use Rattle.room.proofs.Written.{numbers-length, pair-more, front-all}
use Rattle.room.proofs.storing.interleave.Goals as goal

pub loop-k-preserved : goal.loop-k-preserved
loop-k-preserved c =
    let a = c.args in
    let k = c.loop-k.k in
    let f : SFits w32 (get_or a.xs.now k (pos 0)) = search rules in
    let g : SFits w32 (get_or a.ys.now k (pos 0)) = search rules in (
      simp (to_z-of_z f, to_z-of_z g) (pair-more a.xs.now a.ys.now a.to.now c.loop-k.to k c.requires.xs_len c.loop-k-test.true c.requires.xs_in_bounds c.loop-k.invariant.0),
      simp length-set c.loop-k.invariant.1,
    )

pub returns : goal.returns
returns c =
    let a = c.args in
    let L = numbers_of (points a.xs.now a.ys.now) in
    let all : c.loop-k.k + c.loop-k.k ≡ length L = omega (arith, numbers-length (points a.xs.now a.ys.now), length-points a.xs.now a.ys.now c.requires.xs_len, c.loop-k-test.false, c.loop-k.auto.k-end) in
    front-all L a.to.now c.loop-k.to _ all c.loop-k.invariant.0
