-- `ring::counting::added`: two marks differ by 1 at most. Assumes nothing.
use Prim.Native.Nat.{◌≤◌}
use mathlib.Core.Path.{sym, subst₂}
use lib.IntN.{ℤ, pos, nat_abs, ◌-ℤ◌}
use lib.Signed.{lt_z}
use mir.Syntax.{w64}
use mir.Val.{SFits}
use mir.Facts.{to_z-of_z}
use borrow.Author.Rules.{rules}
use Rattle.exact.proofs.Bounds.{within-fits}
use Rattle.ring.proofs.Pick.{pick_true}
use Rattle.ring.proofs.Crossings.{marks-few}
use Rattle.ring.proofs.counting.added.Goals as goal

pub returns-then-counts : goal.returns-then-counts
returns-then-counts c =
    let differ-few : nat_abs (c.args.from.low -ℤ c.args.to.low) ≤ 1 = subst₂ (λ (x y : ℤ). nat_abs (x -ℤ y) ≤ 1) (sym c.requires.0) (sym c.requires.1) (marks-few (lt_z c.args.from.way.y (pos 0)) (lt_z c.args.to.way.y (pos 0))) in
    let differ-fits : SFits w64 (c.args.from.low -ℤ c.args.to.low) = within-fits w64 (c.args.from.low -ℤ c.args.to.low) 1 differ-few tt in
    let f : SFits w64 c.args.from.low = search rules in
    let t : SFits w64 c.args.to.low = search rules in
    simp (to_z-of_z f, to_z-of_z t, to_z-of_z differ-fits) (sym (pick_true c.if-counts.true _ _), differ-few)
