-- `stream::Desk::outline` meets its contract. Assumes nothing.
use Rattle.stream.proofs.Replying.{founding-by, left-so}
use Rattle.stream.proofs.desk.Desk.outline.Goals as goal

pub returns-clause-changed : goal.returns-clause-changed
returns-clause-changed c = left-so _ _ _ _ _ c.drop_index.ensures.lists (founding-by c.found_known-answer.result _ _ _ _ c.found_known-answer.ensures.found c.founded.ensures)
