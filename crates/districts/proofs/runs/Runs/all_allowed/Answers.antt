-- `Runs::all_allowed` asks of each number in turn. Assumes nothing.
use mathlib.Core.Path.{ap, ◌∙◌}
use Rattle.districts.specs.WellFormed.{sized}
use Rattle.districts.proofs.Counting.{all_none, all_more}
use Rattle.districts.proofs.runs.Runs.all_allowed.Goals as goal

pub loop-d-init : goal.loop-d-init
loop-d-init c = all_none _

pub loop-d-preserved : goal.loop-d-preserved
loop-d-preserved c = all_more _ _ _ _ c.loop-d.invariant (c.allowed-good.ensures ∙ ap sized c.size.ensures.0)
