-- `wording::text::Line::border` puts a district, and where on its ring. Assumes nothing.
use native.Mathlib.Omega.{arith}
use borrow.Author.Rules.{rules}
use Rattle.wording.specs.Text.{ascii}
use Rattle.wording.proofs.Decimals.{word-ends}
use Rattle.wording.proofs.Laying.{put_on}
use Rattle.wording.proofs.text.Line.border.Goals as goal

pub touch-requires : goal.touch-requires
unfolding ascii
touch-requires c = omega (arith, c.worded.ensures.long, word-ends _ _ (ascii " border ") _ _ _ c.worded.ensures.laid)

pub returns : goal.returns
unfolding ascii
returns c = put_on (search rules) c.worded.ensures c.touch.ensures
