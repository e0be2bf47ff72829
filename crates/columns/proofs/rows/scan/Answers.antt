-- `columns::rows::scan`: after some numbers it knows of the edges to those vertices. Assumes nothing.
use Prim.Native.Nat.{◌-◌}
use native.Mathlib.Omega.{arith}
use lib.IntN.{pos}
use lib.ListN.{length, get_or}
use mir.Syntax.{w32}
use mir.Val.{SFits}
use mir.Facts.{to_z-of_z}
use borrow.Author.Rules.{rules}
use Rattle.columns.proofs.Scans.{swept_none, swept-more, swept-few}
use Rattle.columns.proofs.rows.scan.Goals as goal

pub loop-y-init : goal.loop-y-init
loop-y-init c =
    let ys = c.args.ys.now in
    let f : SFits w32 (get_or ys (length ys - 1) (pos 0)) = search rules in
    swept_none ys _ _ (to_z-of_z f)

pub overflow_add-rises : goal.overflow_add-rises
overflow_add-rises c =
    omega (arith, (swept-few c.args.ys.now _ _ _ _ _ _ _ c.loop-y.invariant c.requires.1).0, c.weight-rises.ensures.1, c.loop-y.invariant.marked, c.loop-y-test.true, c.requires)

pub overflow_add-falls : goal.overflow_add-falls
overflow_add-falls c =
    omega (arith, (swept-few c.args.ys.now _ _ _ _ _ _ _ c.loop-y.invariant c.requires.1).1, c.weight-falls.ensures.1, c.loop-y.invariant.marked, c.loop-y-test.true, c.requires)

pub loop-y-preserved : goal.loop-y-preserved
loop-y-preserved c =
    let ys = c.args.ys.now in
    let f : SFits w32 (get_or ys c.loop-y.y-index (pos 0)) = search rules in
    swept-more ys _ _ _ _ _ _ _ c.loop-y.invariant _ c.weight-rises.result c.weight-falls.result (to_z-of_z f) c.loop-y-test.true c.weight-rises.ensures.0 c.weight-falls.ensures.0
