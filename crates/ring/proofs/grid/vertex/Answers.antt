-- `ring::grid::vertex` reads the pair of numbers that is vertex i. Assumes nothing.
use Prim.Native.Nat.{◌+◌, ◌*◌}
use mathlib.Core.Path.{sym}
use lib.IntN.{pos}
use lib.ListN.{get_or}
use mir.Syntax.{w32}
use mir.Val.{SFits}
use mir.Facts.{to_z-of_z}
use borrow.Author.Rules.{rules}
use Rattle.ring.proofs.Vertices.{vertex-at}
use Rattle.ring.proofs.grid.vertex.Goals as goal

pub returns : goal.returns
returns c =
    let xs = c.args.list.now in
    let i = c.args.i in
    let f : SFits w32 (get_or xs (2 * i) (pos 0)) = search rules in
    let g : SFits w32 (get_or xs (2 * i + 1) (pos 0)) = search rules in
    simp (to_z-of_z f, to_z-of_z g) (sym (vertex-at xs i (search rules)))
