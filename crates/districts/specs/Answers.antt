-- The rules' answers to a report, with the numbers of the refusals, and how the code's enums say them. Assumes nothing.
use Rattle.std.specs.Prelude.{ℕ, Result, Ok, Err}
use Rattle.refusals.specs.Numbers.{number_of}
use Rattle.ring.specs.Locate.{Touch, touch_of}
use Rattle.districts.specs.declared.Class.{Class}
use Rattle.districts.specs.declared.Class.TheVariants.{Border, One, None, Several}
use Rattle.districts.specs.declared.Report.{Report}
use Rattle.refusals.specs.declared.Refusal.{Refusal}

-- where a report belongs: on a district's border (and where on its ring), in one district, in none, or in several (the lowest, how many)
pub data Belongs : Type 0 where
  border : ℕ → Touch → Belongs
  one : ℕ → Belongs
  none : Belongs
  several : ℕ → ℕ → Belongs

-- a report's number and where it belongs, or a refusal's number
pub data Answer : Type 0 where
  report : ℕ → Belongs → Answer
  refused : ℕ → Answer

abbrev pub belongs : Class → Belongs
belongs (Border d t) = border d (touch_of t)
belongs (One d) = one d
belongs None = none
belongs (Several d n) = several d n

abbrev pub answer_of : Result Report Refusal → Answer
answer_of (Ok r) = report r.number (belongs r.class)
answer_of (Err r) = refused (number_of r)
