-- `stream::Desk::split` meets its contract. Assumes nothing.
use Rattle.std.proofs.Common.{◌∙◌}
use Rattle.stream.proofs.Replying.{splitting-by, left-so, with-outline}
use Rattle.stream.proofs.desk.Desk.split.Goals as goal

pub returns-clause-changed : goal.returns-clause-changed
returns-clause-changed c =
    let same = c.split_known-answer.ensures.lent in
    left-so _ _ _ _ _ (c.drop_index.ensures.lists ∙ with-outline c.split_known-answer.new.lists _ _ same.0 same.1) (splitting-by c.split_known-answer.result _ _ _ _ _ _ _ c.split_known-answer.ensures.split c.changed.ensures)
