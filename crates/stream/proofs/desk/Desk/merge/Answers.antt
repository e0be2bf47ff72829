-- `stream::Desk::merge` meets its contract. Assumes nothing.
use Rattle.std.proofs.Common.{◌∙◌}
use Rattle.stream.proofs.Replying.{merging-by, left-so, with-outline}
use Rattle.stream.proofs.desk.Desk.merge.Goals as goal

pub returns-clause-changed : goal.returns-clause-changed
returns-clause-changed c =
    let same = c.merge_known-answer.ensures.lent in
    left-so _ _ _ _ _ (c.drop_index.ensures.lists ∙ with-outline c.merge_known-answer.new.lists _ _ same.0 same.1) (merging-by c.merge_known-answer.result _ _ _ _ _ _ _ _ c.merge_known-answer.ensures.merged c.changed.ensures)
