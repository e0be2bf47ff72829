-- The rules' known split and its listing of edits, worked out from the definitions. Assumes nothing.
use mathlib.Core.Path.{◌≡◌, refl}
use mathlib.Core.Bool.{true}
use mathlib.Core.List.{List, [], ◌∷◌}
use lib.IntN.{ℤ, pos, negsuc}
use Rattle.ring.specs.Grid.{point, vertices}
use Rattle.ring.specs.Rings.{at, total, ring_sum}
use Rattle.ring.specs.Turns.{quadrant, determinant, quarter_turns, winding}
use Rattle.ring.specs.Segment.{same, on_segment}
use Rattle.ring.specs.Locate.{edge, lowest, highest, located_on}
use Rattle.ring.specs.Known.{square}
use Rattle.districts.specs.Counts.{all_to, sum_to, list_to}
use Rattle.districts.specs.Register.{Register, slot, vertices_of}
use Rattle.districts.specs.Answers.{Belongs, border, one, none, several}
use Rattle.refusals.specs.Verdicts.{Verdict, accept, refuse, verdict}
use Rattle.register.specs.Sorting.{belongs_to}
use Rattle.register.specs.Founding.{founded}
use Rattle.room.specs.Runs.{run}
use Rattle.judging.specs.Splitting.{lowest_unused, vertex_count, split_tests}
use Rattle.changes.specs.Afterwards.{split, merge}
use Rattle.judging.specs.Merging.{matches, merge_tests}

-- ---- S split from 0 to 1 with path (2,9)

abbrev spiked : Register
spiked = split (founded square) 0 0 1 (point (pos 2) (pos 9) ∷ [])

abbrev windings : ℤ → ℤ → List ℤ
windings a b = winding (vertices_of (slot spiked 0)) (point a b) ∷ winding (vertices_of (slot spiked 1)) (point a b) ∷ []

pub known-split :
    ◌≡◌ {A = List Belongs} (belongs_to spiked (point (pos 2) (pos 6)) ∷ belongs_to spiked (point (pos 2) (pos 2)) ∷ []) (several 0 2 ∷ one 0 ∷ [])
unfolding split lowest_unused run belongs_to founded sum_to list_to located_on lowest highest vertices at total ring_sum quadrant determinant quarter_turns winding same on_segment
known-split = refl

pub known-windings : windings (pos 2) (pos 6) ≡ pos 1 ∷ negsuc 0 ∷ []
unfolding split lowest_unused run founded sum_to list_to lowest vertices at total ring_sum quadrant determinant quarter_turns winding
known-windings = refl

-- ---- the listing: split 0 from 0 to 2, reports, a split that is refused, a merge that undoes the first, a report

abbrev halves : Register
halves = split (founded square) 0 0 2 []

abbrev whole : Register
whole = merge halves 0 2 1 0 1

abbrev judged : List Verdict
judged = verdict (split_tests true (founded square) 0 0 2 []) ∷ verdict (split_tests true halves 1 0 1 []) ∷ verdict (merge_tests true halves 0 2 1 0 1) ∷ []

pub listing-judged : judged ≡ accept ∷ refuse 9 ∷ accept ∷ []
unfolding split lowest_unused vertex_count verdict matches run founded all_to sum_to list_to lowest vertices at same
listing-judged = refl

pub listing-reports :
    ◌≡◌ {A = List Belongs}
    (belongs_to halves (point (pos 3) (pos 1)) ∷ belongs_to halves (point (pos 2) (pos 2)) ∷ belongs_to halves (point (pos 9) (pos 9)) ∷ belongs_to whole (point (pos 2) (pos 2)) ∷ [])
    (one 0 ∷ border 0 (edge 2 2) ∷ none ∷ one 0 ∷ [])
unfolding split merge lowest_unused run belongs_to founded sum_to list_to located_on lowest highest vertices at total ring_sum quadrant determinant quarter_turns winding same on_segment
listing-reports = refl
