-- `register::sorting::on_grid` asks both coordinates. Assumes nothing.
use mathlib.Core.Path.{◌≡◌, sym, ◌∙◌}
use mathlib.Core.Bool.{Bool, ◌||◌}
use mathlib.Core.List.{[]}
use mir.Syntax.{w32}
use mir.Val.{SFits}
use mir.Facts.{to_z-of_z}
use borrow.Author.Rules.{rules}
use Rattle.ring.specs.declared.Point.{Point}
use Rattle.ring.specs.Grid.{beyond}
use Rattle.refusals.proofs.Verdicts.{refused-by, left-to, passed-all}
use Rattle.register.proofs.sorting.on_grid.Goals as goal

either : (r : Point) (a b t : Bool) → a ≡ beyond r.x → b ≡ beyond r.y → (a || b) ≡ t → (beyond r.x || beyond r.y) ≡ t
either r a b t e f g = (λ i. sym e i || sym f i) ∙ g

pub returns-then-beyond : goal.returns-then-beyond
returns-then-beyond c =
    let r = c.args.r in
    let f : SFits w32 r.x = search rules in
    let g : SFits w32 r.y = search rules in
    refused-by 5 _ [] (either r _ _ _ (simp (to_z-of_z f) at c.beyond.ensures) (simp (to_z-of_z g) at c.beyond-2.ensures) c.if-beyond.true)

pub returns : goal.returns
returns c =
    let r = c.args.r in
    let f : SFits w32 r.x = search rules in
    let g : SFits w32 r.y = search rules in
    left-to 5 _ [] (either r _ _ _ (simp (to_z-of_z f) at c.beyond.ensures) (simp (to_z-of_z g) at c.beyond-2.ensures) c.if-beyond.false) (sym passed-all)
