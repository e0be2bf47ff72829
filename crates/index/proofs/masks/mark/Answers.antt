-- `index::masks::mark`: the bands that it has come to have the bit, and all bits that were there are. Assumes nothing.
use native.Mathlib.Omega.{arith}
use borrow.Author.Rules.{rules}
use Rattle.index.proofs.Marking.{wider, widened}
use Rattle.index.proofs.masks.mark.Goals as goal

pub loop-mask-preserved : goal.loop-mask-preserved
loop-mask-preserved c = let l = c.loop-mask in wider _ c.args.d l.mask-index l.mask-items l.invariant c.requires.2 (search rules)

pub returns : goal.returns
returns c = let l = c.loop-mask in widened c.args.masks.now c.args.d c.args.from _ l.mask-index l.mask-items (omega arith) (search rules) l.invariant c.loop-mask-test.false c.args.to (omega arith)
