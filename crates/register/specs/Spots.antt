-- How the code says where a position is; no public promise cites it. Assumes nothing.
use Rattle.std.specs.Prelude.{◌≡◌, Result, Ok, Err}
use Rattle.ring.specs.Grid.{point}
use Rattle.refusals.specs.Numbers.{number_of}
use Rattle.refusals.specs.Verdicts.{refuse, verdict}
use Rattle.register.specs.declared.Position.{Position}
use Rattle.refusals.specs.declared.Refusal.{Refusal}
use Rattle.ring.specs.declared.Point.{Point}
use Rattle.register.specs.Sorting.{point_tests}
use Rattle.register.specs.Placing.{east_of, north_of, position_tests}

-- a point with nothing to refuse but that it is beyond the grid, or the position's refusal
abbrev pub Spots : Result Point Refusal → Position → Type 0
Spots (Ok r) p = (r ≡ point (east_of p) (north_of p)) × (verdict (position_tests p) ≡ verdict (point_tests r.x r.y))
Spots (Err why) p = verdict (position_tests p) ≡ refuse (number_of why)
