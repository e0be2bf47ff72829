-- Each part of a short arrow is at most 2,000,000,000, so the two products and their difference stay below 2 ^ 63. Assumes nothing.
use Rattle.std.proofs.Common.{◌≤◌, ◌-ℤ◌, ◌*ℤ◌, ℤ}
use lib.IntN.{nat_abs}
use mir.Syntax.{w64}
use mir.Val.{SFits}
use mir.Facts.{to_z-of_z}
use Rattle.exact.proofs.Bounds.{within-fits, mul-within, sub_within}
use Rattle.exact.proofs.Arrow.determinant.Goals as goal

part : (x : ℤ) → nat_abs x ≤ 2_000_000_000 → SFits w64 x
part x h = within-fits w64 x 2_000_000_000 h tt

product : (x y : ℤ) → nat_abs x ≤ 2_000_000_000 → nat_abs y ≤ 2_000_000_000 → SFits w64 (x *ℤ y)
product x y g h = within-fits w64 (x *ℤ y) 4_000_000_000_000_000_000 (mul-within x y 2_000_000_000 2_000_000_000 4_000_000_000_000_000_000 g h tt) tt

difference : (x y u v : ℤ) → nat_abs x ≤ 2_000_000_000 → nat_abs y ≤ 2_000_000_000 → nat_abs u ≤ 2_000_000_000 → nat_abs v ≤ 2_000_000_000 → SFits w64 (x *ℤ y -ℤ u *ℤ v)
difference x y u v g h k l =
    within-fits w64 (x *ℤ y -ℤ u *ℤ v) 8_000_000_000_000_000_000
    (sub_within (x *ℤ y) (u *ℤ v) 4_000_000_000_000_000_000 4_000_000_000_000_000_000 8_000_000_000_000_000_000
    (mul-within x y 2_000_000_000 2_000_000_000 4_000_000_000_000_000_000 g h tt) (mul-within u v 2_000_000_000 2_000_000_000 4_000_000_000_000_000_000 k l tt) tt)
    tt

pub overflow_sub-result : goal.overflow_sub-result
overflow_sub-result c =
    let p = c.requires.short in
    let q = c.requires.q_short in
    let a = part c.args.self.x p.across in
    let b = part c.args.q.y q.up in
    let d = part c.args.q.x q.across in
    let e = part c.args.self.y p.up in
    let f = product c.args.self.x c.args.q.y p.across q.up in
    let g = product c.args.q.x c.args.self.y q.across p.up in
    simp (to_z-of_z a, to_z-of_z b, to_z-of_z d, to_z-of_z e, to_z-of_z f, to_z-of_z g) (difference c.args.self.x c.args.q.y c.args.q.x c.args.self.y p.across q.up q.across p.up)

pub returns : goal.returns
returns c =
    let p = c.requires.short in
    let q = c.requires.q_short in
    let a = part c.args.self.x p.across in
    let b = part c.args.q.y q.up in
    let d = part c.args.q.x q.across in
    let e = part c.args.self.y p.up in
    let f = product c.args.self.x c.args.q.y p.across q.up in
    let g = product c.args.q.x c.args.self.y q.across p.up in
    let h = difference c.args.self.x c.args.q.y c.args.q.x c.args.self.y p.across q.up q.across p.up in
    simp (to_z-of_z a, to_z-of_z b, to_z-of_z d, to_z-of_z e, to_z-of_z f, to_z-of_z g, to_z-of_z h)
