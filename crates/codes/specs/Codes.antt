-- How an answer is told to other languages: a kind and eight values, of which those that are not used are 0. include/launchramp.h has the same. Assumes nothing.
use Rattle.std.specs.Prelude.{ℕ, suc, List, [], ◌∷◌, ◌≡◌, ℤ, pos, negsuc, Result, Ok, Err}
use Rattle.ring.specs.Locate.{Touch, vertex, edge, Place, on, off, refused}
use Rattle.districts.specs.Answers as Answers
use Rattle.districts.specs.Answers.{Belongs, border, one, none, several, Answer, report}
use Rattle.refusals.specs.Verdicts.{Verdict, accept, refuse}
use Rattle.ring.specs.declared.Point.{Point}
use Rattle.refusals.specs.declared.Refusal.{Refusal}
use Rattle.refusals.specs.Numbers.{number_of}
use Rattle.changes.specs.Answers as Changes

pub record Code : Type 0 where
  pub kind : ℕ
  pub values : List ℕ

abbrev pub code : ℕ → ℕ → ℕ → Code
code k a b = record { kind = k; values = a ∷ b ∷ 0 ∷ 0 ∷ 0 ∷ 0 ∷ 0 ∷ 0 ∷ [] }

-- a refusal, by the rules' number
abbrev pub refused_code : ℕ → Code
refused_code n = code 0 n 0

-- done, with the number of the district that was made or kept; founding makes district 0, and for a fix on the grid it is 0 too
abbrev pub done_code : ℕ → Code
done_code d = code 1 d 0

-- a winding number as its size, and 1 where it is negative
abbrev pub off_code : ℤ → Code
off_code (pos n) = code 4 n 0
off_code (negsuc n) = code 4 (suc n) 1

-- at vertices or on edges: the lowest index and the highest
abbrev pub touch_code : Touch → Code
touch_code (vertex i j) = code 2 i j
touch_code (edge i j) = code 3 i j

abbrev pub place_code : Place → Code
place_code (on t) = touch_code t
place_code (off w o) = off_code w
place_code (refused n) = refused_code n

abbrev pub verdict_code : Verdict → Code
verdict_code accept = done_code 0
verdict_code (refuse n) = refused_code n

abbrev pub change_code : Changes.Answer → Code
change_code (Changes.done d) = done_code d
change_code (Changes.refused n) = refused_code n

-- on the ring of district d, at its vertices (2) or on its edges (3), from the lowest index to the highest
abbrev pub border_code : ℕ → ℕ → ℕ → ℕ → Code
border_code d kind i j = record { kind = 5; values = d ∷ 0 ∷ kind ∷ i ∷ j ∷ 0 ∷ 0 ∷ 0 ∷ [] }

abbrev pub on_border_code : ℕ → Touch → Code
on_border_code d (vertex i j) = border_code d 2 i j
on_border_code d (edge i j) = border_code d 3 i j

abbrev pub class_code : Belongs → Code
class_code (border d t) = on_border_code d t
class_code (one d) = code 6 d 0
class_code none = code 7 0 0
class_code (several d n) = code 8 d n

-- the caller knows the report's number
abbrev pub answer_code : Answer → Code
answer_code (report r b) = class_code b
answer_code (Answers.refused n) = refused_code n

-- where a fix is; on the grid, its millimetres are told apart
abbrev pub placed_code : Result Point Refusal → Code
placed_code (Ok p) = done_code 0
placed_code (Err r) = refused_code (number_of r)

-- the kind is answered, and the values stand in the lent list
pub record Tells (r : ℕ) (lent : List ℕ) (c : Code) : Type 0 where
  pub kind : r ≡ c.kind
  pub values : lent ≡ c.values

-- what a lent point is once a fix was placed
abbrev pub point_for : Result Point Refusal → List ℤ → List ℤ
point_for (Ok p) before = p.x ∷ p.y ∷ []
point_for (Err r) before = before

-- a fix that was placed
pub record PlaceTells (r : ℕ) (values : List ℕ) (p : Result Point Refusal) (before after : List ℤ) : Type 0 where
  pub tells : Tells r values (placed_code p)
  pub left : after ≡ point_for p before
