-- `wording::text::Line::worded` puts a number behind a word. Assumes nothing.
use borrow.Author.Rules.{rules}
use Rattle.wording.proofs.Laying.{put_on}
use Rattle.wording.proofs.text.Line.worded.Goals as goal

pub returns : goal.returns
returns c = put_on (search rules) c.put.ensures c.number.ensures
