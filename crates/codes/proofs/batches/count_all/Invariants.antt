-- `codes::batches::count_all`: after i answers they are counted, told anew at the front, and behind them stands what was there. Assumes nothing.
use Rattle.codes.proofs.Batched.{Counted}
use Rattle.codes.proofs.batches.count_all.Given as goal

abbrev pub invariant-loop-i : goal.invariant-loop-i
invariant-loop-i l = Counted l.n l.i l.initial.answers l.answers l.initial.counts l.counts
