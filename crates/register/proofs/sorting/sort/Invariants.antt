-- `register::sorting::sort` sees one number after the other. The invariant: what is seen of the numbers below d (`Sorts`), and `past` is what they have together. Assumes nothing.
use mathlib.Core.Path.{◌≡◌}
use Rattle.districts.specs.Counts.{sum_to}
use Rattle.districts.specs.Lists.{size}
use Rattle.register.proofs.Runs.{lies}
use Rattle.register.proofs.Sorts.{Sorts}
use Rattle.register.proofs.sorting.sort.Given as goal

abbrev pub invariant-loop-d : goal.invariant-loop-d
invariant-loop-d l = Sorts (lies l.store l.r) l.d l.seen × (l.past ≡ sum_to l.d (size l.store.runs.list.now))
