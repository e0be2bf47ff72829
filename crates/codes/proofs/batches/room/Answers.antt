-- `codes::batches::room` asks in the rules' order. Assumes nothing.
use mathlib.Core.Path.{sym}
use borrow.Author.Tests.{eq-eqb, ne_eqb, lt-ltb, le-ltb}
use Rattle.refusals.proofs.Verdicts.{refused-by, left-to, passed-all}
use Rattle.codes.proofs.batches.room.Goals as goal

pub returns-then-points-eq1 : goal.returns-then-points-eq1
returns-then-points-eq1 c = refused-by 4 _ _ (eq-eqb _ 1 c.if-points-eq1.true)

pub returns-then-answers-points : goal.returns-then-answers-points
returns-then-answers-points c = left-to 4 _ _ (ne_eqb _ 1 c.if-points-eq1.false) (refused-by 28 _ _ (lt-ltb _ _ c.if-answers-points.true))

pub returns : goal.returns
returns c = left-to 4 _ _ (ne_eqb _ 1 c.if-points-eq1.false) (left-to 28 _ _ (le-ltb _ _ c.if-answers-points.false) (sym passed-all))
