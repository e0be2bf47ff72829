-- `StoreMut::remove` closes the gap and lowers the places after it. Assumes nothing.
use mathlib.Core.Path.{ap, ◌∙◌}
use Rattle.districts.specs.Lists.{first_place, size}
use Rattle.districts.specs.WellFormed.{total}
use Rattle.room.proofs.Closing.{left}
use Rattle.room.proofs.store_mut.StoreMut.remove.Goals as goal

pub returns-clause-left : goal.returns-clause-left
returns-clause-left c =
    let s = c.args.self.now in
    let d = c.args.d in
    let closed = left s.sx.now s.sy.now s.runs.now d c.lower.new.runs s.long.0 s.long.1 s.long.2 c.requires.d_bound c.requires.inside.0 c.requires.inside.1 _ _ _
    (c.first_place-at.ensures.0 ∙ ap (λ r. first_place r d) c.runs-runs.ensures)
    (c.size-n.ensures.0 ∙ ap (λ r. size r d) c.runs-runs.ensures)
    (c.total-all.ensures ∙ ap total c.runs-runs.ensures)
    c.lower.ensures in
    rw (c.copy_within.ensures.after, c.copy_within-2.ensures.after) closed
