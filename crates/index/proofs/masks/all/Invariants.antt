-- `index::masks::all` marks one number after the other. Assumes nothing.
use Rattle.index.specs.Axis.{Marked}
use Rattle.index.proofs.masks.all.Given as goal

abbrev pub invariant-loop-d : goal.invariant-loop-d
invariant-loop-d l = Marked l.bounds l.column.runs.list.now l.axis l.d l.masks
