-- `wording::text::Line::paired` puts two numbers, each behind its word. Assumes nothing.
use native.Mathlib.Omega.{arith}
use borrow.Author.Rules.{rules}
use Rattle.wording.specs.Text.{ascii}
use Rattle.wording.proofs.Decimals.{word-ends}
use Rattle.wording.proofs.Laying.{word-put_on}
use Rattle.wording.proofs.text.Line.paired.Goals as goal

pub worded-requires-2 : goal.worded-requires-2
unfolding ascii
worded-requires-2 c =
    let a = c.args in
    omega (arith, c.worded.ensures.long, word-ends _ _ a.word.now a.n _ _ c.worded.ensures.laid)

pub returns : goal.returns
unfolding ascii
returns c = word-put_on (ascii " ") _ (search rules) c.worded.ensures c.worded-2.ensures
