-- `register::listing::sort_listed` takes one listed number after the other. The invariant: what is seen of the numbers below one, and `left` has the bits of the others (`Turn`). Assumes nothing.
use Rattle.register.proofs.Runs.{lies}
use Rattle.register.proofs.Turns.{Turn}
use Rattle.register.proofs.listing.sort_listed.Given as goal

abbrev pub invariant-loop-left : goal.invariant-loop-left
invariant-loop-left l = Turn (lies l.store l.r) l.left l.seen

abbrev pub decreases-loop-left : goal.decreases-loop-left
decreases-loop-left l = l.left
