-- `register::listing::lies_near` walks along the run of a district within whose bounds the point is. Assumes nothing.
use mathlib.Core.Path.{sym, ◌∙◌}
use mathlib.Core.Bool.{◌&&◌}
use mir.Syntax.{w32}
use mir.Val.{SFits}
use mir.Facts.{to_z-of_z}
use borrow.Author.Rules.{rules}
use Rattle.register.proofs.Listed.{far-quiet}
use Rattle.register.proofs.listing.lies_near.Goals as goal

pub returns-then-not-holds : goal.returns-then-not-holds
returns-then-not-holds c =
    let a = c.args in
    let f : SFits w32 a.r.x = search rules in
    let g : SFits w32 a.r.y = search rules in
    let x = simp (to_z-of_z f) at c.holds.ensures in
    let y = simp (to_z-of_z g) at c.holds-2.ensures in
    far-quiet a.store.now a.index.now c.requires.indexed a.r a.d c.requires.d_bound ((λ i. sym x i && sym y i) ∙ c.if-not-holds.true)
