-- `index::bounds::Bounds::all` bounds one number after the other. Assumes nothing.
use Rattle.index.specs.Axis.{Bounded}
use Rattle.index.proofs.bounds.Bounds.all.Given as goal

abbrev pub invariant-loop-d : goal.invariant-loop-d
invariant-loop-d l = Bounded l.column.numbers.now l.column.runs.list.now l.d l.bounds
