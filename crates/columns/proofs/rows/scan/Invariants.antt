-- `columns::rows::scan`: after some numbers it knows of the edges to those vertices. Assumes nothing.
use Rattle.columns.proofs.Scans.{Swept}
use Rattle.columns.proofs.rows.scan.Given as goal

abbrev pub invariant-loop-y : goal.invariant-loop-y
invariant-loop-y l = Swept l.ys l.v l.rises l.falls l.apart l.low l.mark l.y-index
