-- `register::placing::spot_of` answers by the kind of position. Assumes nothing.
use mathlib.Core.Path.{sym, subst}
use mir.Syntax.{w32}
use mir.Val.{SFits}
use mir.Facts.{to_z-of_z}
use borrow.Author.Rules.{rules}
use Rattle.std.specs.Prelude.{Ok, Err}
use Rattle.ring.specs.Grid.{point}
use Rattle.refusals.specs.declared.Refusal.TheVariants as Why
use Rattle.register.specs.declared.Position.TheVariants.{Fix}
use Rattle.register.specs.Spots.{Spots}
use Rattle.register.proofs.ByPosition.{grid-spot, fix-spot, missing-spot}
use Rattle.register.proofs.placing.spot_of.Goals as goal

pub returns-in-Grid : goal.returns-in-Grid
returns-in-Grid c =
    let x = c.in-Grid.x in
    let y = c.in-Grid.y in
    let across : SFits w32 x = search rules in
    let up : SFits w32 y = search rules in
    subst (λ r. Spots (Ok r) c.args.position) (λ i. point (sym (to_z-of_z across) i) (sym (to_z-of_z up) i)) (subst (Spots (Ok (point x y))) (sym c.in-Grid.is) (grid-spot x y))

pub returns-in-Fix : goal.returns-in-Fix
returns-in-Fix c = subst (Spots c.millimetres.result) (sym c.in-Fix.is) (subst (λ r. Spots r (Fix c.in-Fix.fix)) (sym c.millimetres.ensures) (fix-spot c.in-Fix.fix))

pub returns-in-Missing : goal.returns-in-Missing
returns-in-Missing c = subst (Spots (Err Why.Missing)) (sym c.in-Missing.is) missing-spot
