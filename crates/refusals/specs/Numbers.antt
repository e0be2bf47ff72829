-- The rules' number of each refusal. Assumes nothing.
use Rattle.std.specs.Prelude.{ℕ}
use Rattle.refusals.specs.declared.Refusal.{Refusal}
use Rattle.refusals.specs.declared.Refusal.TheVariants.{NotWellFormed, NoOutline, OutlineThere, NoRing, BeyondGrid, BadNumber, SameDistrict, BadIndex, TooFew, NoMatch, NumbersInUse, NoRoom, BrokenRecord, CountFull, NotFinite, Missing, ListTooShort}

abbrev pub number_of : Refusal → ℕ
number_of NotWellFormed = 1
number_of NoOutline = 2
number_of OutlineThere = 3
number_of NoRing = 4
number_of BeyondGrid = 5
number_of BadNumber = 6
number_of SameDistrict = 7
number_of BadIndex = 8
number_of TooFew = 9
number_of NoMatch = 10
number_of NumbersInUse = 11
number_of NoRoom = 12
number_of BrokenRecord = 13
number_of CountFull = 14
number_of NotFinite = 18
number_of Missing = 19
number_of ListTooShort = 28
