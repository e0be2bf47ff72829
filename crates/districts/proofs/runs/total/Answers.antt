-- `runs::total` adds up the 64 sizes. Assumes nothing.
use borrow.Author.Rules.{rules}
use Rattle.districts.proofs.Counting.{sum-none, sum_more}
use Rattle.districts.proofs.runs.total.Goals as goal

pub loop-d-init : goal.loop-d-init
loop-d-init c = (sum-none _, search rules)

pub loop-d-preserved : goal.loop-d-preserved
loop-d-preserved c = (sum_more _ _ _ _ c.loop-d.invariant.0 c.size-sum.ensures.0, search rules)
