-- `codes::batches::answer_all`: after i points their answers stand at the front, and behind them what was there. Assumes nothing.
use mathlib.Core.Path.{ap, ◌∙◌}
use borrow.Author.Rules.{rules}
use Rattle.ring.proofs.Vertices.{vertex-at}
use Rattle.codes.specs.Batches.{answer_to, answer_by}
use Rattle.codes.proofs.Batched.{answers-none, answered-more}
use Rattle.codes.proofs.batches.answer_all.Goals as goal

pub loop-i-init : goal.loop-i-init
loop-i-init c = answers-none _ c.args.answers.now

pub loop-i-preserved : goal.loop-i-preserved
loop-i-preserved c =
    let s = c.args.store.now in
    let xs = c.args.points.now in
    let i = c.loop-i.i in
    let vertex = c.vertex.ensures ∙ vertex-at xs i (search rules) in
    let is = c.place_listed-answer.ensures ∙ ap (answer_to s.sx.now s.sy.now s.runs.list.now) vertex in
    let f = answer_by s.sx.now s.sy.now s.runs.list.now xs in
    answered-more f i c.args.answers.now c.loop-i.answers c.tell.new.answers _ c.loop-i.invariant is c.tell.ensures
