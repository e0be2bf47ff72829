-- Many reports at once: nine numbers for each, one after the other, in a lent list of answers. Assumes nothing.
use Rattle.std.specs.Prelude.{ℕ, zero, suc, ◌+◌, ◌*◌, ◌/◌, ◌%◌, Bool, List, [], ◌∷◌, ◌++◌, ◌≡◌, ltb, eqb, ℤ, pos, length, get_or, drop}
use Rattle.ring.specs.declared.Point.{Point}
use Rattle.ring.specs.Grid.{point}
use Rattle.ring.specs.Columns.{points}
use Rattle.districts.specs.Register.{Register}
use Rattle.districts.specs.Answers.{Answer, report}
use Rattle.districts.specs.Lists.{district}
use Rattle.districts.specs.Lent.{Lists, formed, means, beginning}
use Rattle.refusals.specs.Verdicts.{Test, ◌if◌, Verdict, accept, refuse, verdict}
use Rattle.register.specs.Sorting.{lies_to, sorted_by, point_tests, given, assigned}
use Rattle.tally.specs.declared.Tally.{Tally}
use Rattle.tally.specs.Tally.{tallied, answered}
use Rattle.codes.specs.Codes.{Code, answer_code, verdict_code, Tells}
use Rattle.codes.specs.Counts.{tally_of}

-- an answer's kind, then its values
abbrev pub told : Code → List ℕ
told c = c.kind ∷ c.values

-- point i of a list x, y, x, y, ..
abbrev pub point_at : List ℤ → ℕ → Point
point_at xs i = point (get_or xs (2 * i) (pos 0)) (get_or xs (2 * i + 1) (pos 0))

-- the first n answers, one after the other
unfoldable pub answers_to : (ℕ → Answer) → ℕ → List ℕ
answers_to f zero = []
answers_to f (suc n) = answers_to f n ++ told (answer_code (f n))

-- the tally once the first n answers are counted
unfoldable pub tally_to : Tally → (ℕ → Answer) → ℕ → Tally
tally_to t f zero = t
tally_to t f (suc n) = tallied (tally_to t f n) (f n)

-- answer n, counted behind those before it
abbrev pub counted_to : Tally → (ℕ → Answer) → ℕ → Answer
counted_to t f n = answered (tally_to t f n) (f n)

-- the answer to a point by the columns and the runs of a register, and to point i of a list
abbrev pub answer_to : List ℤ → List ℤ → List ℕ → Point → Answer
answer_to sx sy runs R = given (verdict (point_tests R.x R.y)) (report 0 (sorted_by (λ d. lies_to R (district (points sx sy) runs d))))

abbrev pub answer_by : List ℤ → List ℤ → List ℕ → List ℤ → ℕ → Answer
answer_by sx sy runs xs i = answer_to sx sy runs (point_at xs i)

-- and by the register that the lists mean
abbrev pub answer_in : Lists → List ℤ → ℕ → Answer
answer_in l xs i = assigned (formed l) (means l) 0 (point_at xs i).x (point_at xs i).y

-- 4: a list of points of odd length p; then 28: a list of answers, of length a, with fewer than nine numbers for each point
abbrev pub room_tests : ℕ → ℕ → List Test
room_tests p a = (4 if eqb (p % 2) 1) ∷ (28 if ltb (a / 9) (p / 2)) ∷ []

-- refusals 1, 2, 4, 28 in this order
abbrev pub batch_tests : Bool → Register → ℕ → ℕ → List Test
batch_tests good g p a = beginning good g ++ room_tests p a

-- what the list of answers is afterwards: all answers, and what stood behind them; if all is refused, what it was
abbrev pub left_by : Verdict → List ℕ → List ℕ → List ℕ
left_by accept new before = new ++ drop (length new) before
left_by (refuse n) new before = before

-- what the counts are afterwards: the tally t; if all is refused, the very list that they were
abbrev pub TallyBy : Verdict → Tally → List ℕ → List ℕ → Type 0
TallyBy accept t before after = tally_of after ≡ t
TallyBy (refuse n) t before after = before ≡ after

-- whatever answer is told at the front of a list: it is counted, and what is answered then is told there
abbrev pub CountsTold : List ℕ → List ℕ → List ℕ → List ℕ → Type 0
CountsTold before after counts counts' =
    (a : Answer) (rest : List ℕ) → before ≡ told (answer_code a) ++ rest → (after ≡ told (answer_code (answered (tally_of counts) a)) ++ rest) × (tally_of counts' ≡ tallied (tally_of counts) a)

-- whatever n answers are told there: the same for each, behind those before it
abbrev pub AllCounted : ℕ → List ℕ → List ℕ → List ℕ → List ℕ → Type 0
AllCounted n before after counts counts' =
    (f : ℕ → Answer) (rest : List ℕ) → before ≡ answers_to f n ++ rest → (after ≡ answers_to (counted_to (tally_of counts) f) n ++ rest) × (tally_of counts' ≡ tally_to (tally_of counts) f n)

-- many reports at points xs, with room for the answers in a list of length a
abbrev pub batch : Lists → List ℤ → ℕ → Verdict
batch l xs a = verdict (batch_tests (formed l) (means l) (length xs) a)

pub record BatchTells (r : ℕ) (values : List ℕ) (l : Lists) (xs : List ℤ) (before after : List ℕ) : Type 0 where
  pub tells : Tells r values (verdict_code (batch l xs (length before)))
  pub left : after ≡ left_by (batch l xs (length before)) (answers_to (answer_in l xs) (length xs / 2)) before

-- the same, each report counted behind those before it
pub record BatchCounts (r : ℕ) (values : List ℕ) (l : Lists) (xs : List ℤ) (before after counts counts' : List ℕ) : Type 0 where
  pub tells : Tells r values (verdict_code (batch l xs (length before)))
  pub left : after ≡ left_by (batch l xs (length before)) (answers_to (counted_to (tally_of counts) (answer_in l xs)) (length xs / 2)) before
  pub tally : TallyBy (batch l xs (length before)) (tally_to (tally_of counts) (answer_in l xs) (length xs / 2)) counts counts'
