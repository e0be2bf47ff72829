-- `stream::Desk::report` meets its contract: the answer by the index goes through the tally. Assumes nothing.
use Rattle.std.proofs.Common.{ap, ◌∙◌, true}
use borrow.Author.Rules.{rules}
use Rattle.tally.specs.Tally.{tallied, answered}
use Rattle.districts.specs.Lent.{outline_of}
use Rattle.register.specs.Placing.{assigned_at}
use Rattle.stream.specs.Held.{lists_at}
use Rattle.stream.specs.Replies.{belonging, replied, tallied_by}
use Rattle.stream.proofs.Sorting.{store-means, fits, fits-store}
use Rattle.stream.proofs.desk.Desk.report.Goals as goal

pub assign_listed-answer-requires : goal.assign_listed-answer-requires
assign_listed-answer-requires c = fits-store (lists_at c.args.self.now) c.store-store.result c.store-store.ensures _ _ c.requires (search (rules, c.get_or_insert_with-index.ensures.cases))

pub returns-clause-told : goal.returns-clause-told
unfolding replied
returns-clause-told c =
    let a = c.args in
    let g = store-means (lists_at a.self.now) c.store-store.result c.store-store.ensures in
    let assigned = c.assign_listed-answer.ensures (outline_of (lists_at a.self.now)) ∙ (λ i. assigned_at true (g i) a.s.number a.s.position) in
    c.assigned.ensures ∙ ap belonging (c.count.ensures.answer ∙ ap (answered a.self.now.tally) assigned)

pub returns-clause-tally : goal.returns-clause-tally
unfolding tallied_by
returns-clause-tally c =
    let a = c.args in
    let g = store-means (lists_at a.self.now) c.store-store.result c.store-store.ensures in
    let assigned = c.assign_listed-answer.ensures (outline_of (lists_at a.self.now)) ∙ (λ i. assigned_at true (g i) a.s.number a.s.position) in
    c.count.ensures.tally ∙ ap (tallied a.self.now.tally) assigned

pub returns-clause-fit : goal.returns-clause-fit
returns-clause-fit c = fits (lists_at c.args.self.now) c.store-store.result c.store-store.ensures _ _ c.requires (search (rules, c.get_or_insert_with-index.ensures.cases))
