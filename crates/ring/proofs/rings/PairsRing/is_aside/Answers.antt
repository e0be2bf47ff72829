-- `Pairs::is_aside`: after j vertices each of the four tests tells of those j. Assumes nothing.
use Prim.Native.Nat.{◌+◌}
use native.Mathlib.Omega.{arith}
use mathlib.Core.Path.{◌≡◌, ap, ◌∙◌}
use lib.Signed.{lt_z}
use mir.Syntax.{w32}
use mir.Val.{SFits, to_z, of_z}
use mir.Facts.{to_z-of_z}
use borrow.Author.Rules.{rules}
use Rattle.ring.specs.declared.Point.{Point}
use Rattle.ring.specs.Grid.{vertices}
use Rattle.ring.specs.Rings.{at}
use Rattle.ring.proofs.OnGrid.{vertex-on-grid, held}
use Rattle.ring.proofs.Walks.{tells_more, told-aside}
use Rattle.ring.proofs.rings.PairsRing.is_aside.Goals as goal

pub loop-j-preserved : goal.loop-j-preserved
loop-j-preserved c =
    let xs = c.args.self.now.list.now in
    let R = c.args.r in
    let Q = at (vertices xs) (c.args.i + c.loop-j.j) in
    let g = vertex-on-grid xs c.args.self.now.ring.grid (c.args.i + c.loop-j.j) in
    let x : to_z w32 (of_z w32 c.vertex-p.result.x) ≡ Q.x = ap (λ (p : Point). to_z w32 (of_z w32 p.x)) c.vertex-p.ensures ∙ held _ g.across in
    let y : to_z w32 (of_z w32 c.vertex-p.result.y) ≡ Q.y = ap (λ (p : Point). to_z w32 (of_z w32 p.y)) c.vertex-p.ensures ∙ held _ g.up in
    let fx : SFits w32 R.x = search rules in
    let fy : SFits w32 R.y = search rules in
    let own_x : to_z w32 (of_z w32 R.x) ≡ R.x = to_z-of_z fx in
    let own_y : to_z w32 (of_z w32 R.y) ≡ R.y = to_z-of_z fy in
    let j = c.loop-j.j in
    let (north, south, east, west) = c.loop-j.invariant in (
      tells_more c.loop-j.north _ _ j (λ i. lt_z (own_y i) (y i)) north,
      tells_more c.loop-j.south _ _ j (λ i. lt_z (y i) (own_y i)) south,
      tells_more c.loop-j.east _ _ j (λ i. lt_z (own_x i) (x i)) east,
      tells_more c.loop-j.west _ _ j (λ i. lt_z (x i) (own_x i)) west,
    )

pub returns : goal.returns
returns c =
    let (north, south, east, west) = c.loop-j.invariant in
    told-aside (vertices c.args.self.now.list.now) c.args.r c.args.i c.args.k c.loop-j.j (omega (arith, c.loop-j-test.false)) _ _ _ _ north south east west
