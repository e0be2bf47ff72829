-- `Columns::len` is the length of the column of x. Assumes nothing.
use mathlib.Core.Path.{sym}
use Rattle.ring.proofs.Points.{length-points}
use Rattle.ring.proofs.rings.ColumnsRing.len.Goals as goal

pub returns-clause-all : goal.returns-clause-all
returns-clause-all c = let s = c.args.self.now in sym (length-points s.xs.now s.ys.now s.ring.even)
