-- The vertices of a ring that is held in columns. Assumes nothing.
use Rattle.std.specs.Prelude.{List}
use Rattle.ring.specs.declared.Point.{Point}
use Rattle.ring.specs.declared.rings.Columns as Held
use Rattle.ring.specs.Columns.{points}

abbrev pub points_of : Held.Columns → List Point
points_of c = points c.xs.now c.ys.now
