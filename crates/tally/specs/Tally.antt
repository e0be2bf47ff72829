-- The rules' tally, and what an answer does to it. The contracts of `tally` cite these definitions. Assumes nothing.
use Rattle.std.specs.Prelude.{ℕ, ◌+◌, ◌≡◌, Bool, false, cond, ◌||◌, List, [], ◌∷◌, eqb, leb, get_or, set, replicate, Option, Some, None, Result, Ok, Err}
use Rattle.refusals.specs.declared.Refusal.{Refusal}
use Rattle.refusals.specs.Numbers.{number_of}
use Rattle.districts.specs.Counts.{sum_to}
use Rattle.districts.specs.Register.{numbers}
use Rattle.districts.specs.Answers.{Belongs, border, one, none, several, Answer, report, refused}
use Rattle.tally.specs.declared.Tally.{Tally}

-- the largest number that a count can be
abbrev pub most : ℕ
most = 4_294_967_295

abbrev pub fresh : Tally
fresh = record { ones = replicate numbers 0; border = 0; none = 0; several = 0 }

-- the count that a class raises
abbrev pub count_of : Tally → Belongs → ℕ
count_of t (border d at) = t.border
count_of t (one d) = get_or t.ones d 0
count_of t none = t.none
count_of t (several d n) = t.several

-- there is no count for the class: assigning never gives a number above 63
abbrev pub uncounted : Belongs → Bool
uncounted (border d at) = false
uncounted (one d) = leb numbers d
uncounted none = false
uncounted (several d n) = false

-- the count that a class raises, if it has one
abbrev pub count_if : Tally → Belongs → Option ℕ
count_if t b = cond (uncounted b) None (Some (count_of t b))

-- the count to be raised is 4,294,967,295, or there is no such count
abbrev pub full : Tally → Belongs → Bool
full t b = uncounted b || eqb (count_of t b) most

-- another count for the class, the others as they were
abbrev pub counting : Tally → Belongs → ℕ → Tally
counting t (border d at) n = record { ones = t.ones; border = n; none = t.none; several = t.several }
counting t (one d) n = record { ones = set t.ones d n; border = t.border; none = t.none; several = t.several }
counting t none n = record { ones = t.ones; border = t.border; none = n; several = t.several }
counting t (several d m) n = record { ones = t.ones; border = t.border; none = t.none; several = n }

-- the count of the class raised by one
abbrev pub raised : Tally → Belongs → Tally
raised t b = counting t b (count_of t b + 1)

-- the tally after an answer: a refusal moves no count, nor does a report whose count is full
abbrev pub tallied : Tally → Answer → Tally
tallied t (report r b) = cond (full t b) t (raised t b)
tallied t (refused n) = t

-- the answer that is given with a tally: refusal 14 where the count is full
abbrev pub answered : Tally → Answer → Answer
answered t (report r b) = cond (full t b) (refused 14) (report r b)
answered t (refused n) = refused n

-- what raising the count of a class answers: the tally and the answer of every report of this class
abbrev pub Raises : Tally → Belongs → Result Tally Refusal → Type 0
Raises t b (Ok u) = (n : ℕ) → (u ≡ tallied t (report n b)) × (report n b ≡ answered t (report n b))
Raises t b (Err r) = (n : ℕ) → (t ≡ tallied t (report n b)) × (refused (number_of r) ≡ answered t (report n b))

-- the 64 counts of One together
abbrev pub ones_of : Tally → ℕ
ones_of t = sum_to numbers (λ d. get_or t.ones d 0)

-- all 67 counts together
abbrev pub sum : Tally → ℕ
sum t = ones_of t + t.border + t.none + t.several

-- the tally after a list of answers, one at a time
unfoldable pub run : Tally → List Answer → Tally
run t [] = t
run t (a ∷ rest) = run (tallied t a) rest

-- 1 for a report, 0 for a refusal
abbrev pub accepts : Answer → ℕ
accepts (report r b) = 1
accepts (refused n) = 0

-- how many of a list of answers were not refused, the tally's own refusals included
unfoldable pub accepted : Tally → List Answer → ℕ
accepted t [] = 0
accepted t (a ∷ rest) = accepts (answered t a) + accepted (tallied t a) rest
