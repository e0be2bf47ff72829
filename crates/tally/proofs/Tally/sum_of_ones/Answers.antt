-- `tally::Tally::sum_of_ones`: the next sum is that of one more count. Assumes nothing.
use Rattle.std.proofs.Common.{arith, rules}
use Rattle.districts.proofs.Counting.{sum-none, sum_more}
use Rattle.tally.proofs.Tally.sum_of_ones.Goals as goal

pub loop-n-init : goal.loop-n-init
loop-n-init c = (sum-none _, omega arith)

pub loop-n-preserved : goal.loop-n-preserved
loop-n-preserved c = search (rules, sum_more, c.loop-n.invariant.0)
