-- `wording::lines::line_at` puts four parts, one behind the other. Assumes nothing.
use Prim.Native.Nat.{◌≤◌}
use native.Mathlib.Omega.{arith}
use lib.ListN.{length}
use borrow.Author.Rules.{rules}
use Rattle.wording.specs.Text.{ascii}
use Rattle.wording.specs.Lines.{kind_of, said_of}
use Rattle.wording.proofs.Laying.{put_on}
use Rattle.wording.proofs.Decimals.{decimal-short}
use Rattle.wording.proofs.Written.{kind-short, said-short}
use Rattle.wording.proofs.lines.line_at.Goals as goal

pub kind-requires : goal.kind-requires
kind-requires c = let n = c.number.ensures in omega (arith, n.long, n.laid.behind, decimal-short c.args.n)

pub said-requires : goal.said-requires
said-requires c =
    let n = c.number.ensures in
    let k = c.kind.ensures in
    omega (arith, n.long, k.long, n.laid.behind, k.laid.behind, decimal-short c.args.n, kind-short (kind_of c.args.k))

pub put-requires : goal.put-requires
put-requires c =
    let n = c.number.ensures in
    let k = c.kind.ensures in
    let s = c.said.ensures in
    omega (arith, n.long, k.long, s.long, n.laid.behind, k.laid.behind, s.laid.behind, decimal-short c.args.n, kind-short (kind_of c.args.k), said-short (said_of c.args.s))

pub returns : goal.returns
unfolding ascii
returns c =
    let begins : c.args.at ≤ length c.args.to.now = omega (arith, c.requires) in
    let all = put_on begins (put_on begins (put_on begins c.number.ensures c.kind.ensures) c.said.ensures) c.put.ensures in
    let l = all.laid in
    let n = all.list in
    search (rules, all.laid, all.list)
