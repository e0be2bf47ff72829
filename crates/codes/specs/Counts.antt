-- The tally as a list of 67 counts: One for the districts 0 to 63, then Border, None and Several. Assumes nothing.
use Rattle.std.specs.Prelude.{ℕ, ◌<◌, ◌≡◌, List, eqb, leb, get_or, take, Option, Some, None, Result, Ok, Err}
use Rattle.refusals.specs.declared.Refusal.{Refusal}
use Rattle.refusals.specs.Numbers.{number_of}
use Rattle.ring.specs.Choices.{pick}
use Rattle.districts.specs.Register.{numbers}
use Rattle.districts.specs.Answers.{Belongs, border, one, none, several, Answer, report, refused}
use Rattle.tally.specs.declared.Tally.{Tally}
use Rattle.tally.specs.Tally.{tallied, answered}

-- how many counts there are
abbrev pub counts : ℕ
counts = 67

abbrev pub tally_of : List ℕ → Tally
tally_of list = record { ones = take numbers list; border = get_or list 64 0; none = get_or list 65 0; several = get_or list 66 0 }

-- where the count of a class stands; there is none for a number above 63
abbrev pub place_of : Belongs → ℕ
place_of (border d t) = 64
place_of (one d) = pick (leb numbers d) counts d
place_of none = 65
place_of (several d n) = 66

-- the same by an answer's kind and its first value, as they are told (Codes.antt)
abbrev pub place_told : ℕ → ℕ → ℕ
place_told kind first = pick (eqb kind 6) (place_of (one first)) (pick (eqb kind 5) 64 (pick (eqb kind 7) 65 66))

-- an answer a is counted in the list, and b answered
pub record CountedBy (a b : Answer) (before after : List ℕ) : Type 0 where
  pub tally : tally_of after ≡ tallied (tally_of before) a
  pub answer : b ≡ answered (tally_of before) a

-- the place of a count, as the code says it; where there is none it is the number of places
abbrev pub place_in : Option ℕ → ℕ
place_in (Some at) = at
place_in None = counts

abbrev pub IsPlace : Option ℕ → Type 0
IsPlace (Some at) = at < counts
IsPlace None = Unit {0}

abbrev pub Stands : Option ℕ → ℕ → Type 0
Stands r at = IsPlace r × (place_in r ≡ at)

-- what raising a count answers to a report
abbrev pub raised : Result (Unit {0}) Refusal → Answer → Answer
raised (Ok u) a = a
raised (Err r) a = refused (number_of r)

-- the count at a place is raised, or it is full, as r tells: so every report whose count stands there is counted, or refused by 14
abbrev pub Raises : Option ℕ → Result (Unit {0}) Refusal → List ℕ → List ℕ → Type 0
Raises at r before after = (n : ℕ) (b : Belongs) → place_in at ≡ place_of b → CountedBy (report n b) (raised r (report n b)) before after
