-- Every starred point of the rules' "Known points" lies where its row says. Assumes nothing.
use mathlib.Core.Path.{◌≡◌, refl}
use mathlib.Core.List.{map}
use Rattle.ring.specs.Grid.{vertices}
use Rattle.ring.specs.Rings.{at, total, ring_sum}
use Rattle.ring.specs.Turns.{quadrant, determinant, quarter_turns, winding}
use Rattle.ring.specs.Segment.{same, on_segment}
use Rattle.ring.specs.Locate.{lowest, highest, located_on, located}
use Rattle.ring.specs.Known.{Row, known}

pub known-hold : map (λ (row : Row). located row.ring row.x row.y) known ≡ map (λ (row : Row). row.lies) known
unfolding located located_on lowest highest vertices at total ring_sum quadrant determinant quarter_turns winding same on_segment
known-hold = refl
