-- What it says that a point's row or its column misses a ring. Assumes nothing.
use Rattle.std.specs.Prelude.{◌≡◌, false, pos, Option, Some, None}
use Rattle.ring.specs.Locate.{Place, off}
use Rattle.columns.specs.declared.Line.{Line}

-- the point lies off the ring, and does not wind about it; where no line misses the ring nothing is said
abbrev pub Misses : Option Line → Place → Type 0
Misses (Some line) p = p ≡ off (pos 0) false
Misses None p = Unit {0}
