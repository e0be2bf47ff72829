-- No two refusals have the same number. Assumes nothing.
use Prim.Native.Nat.{ℕ}
use mathlib.Core.Path.{◌≡◌, refl, sym, ap, ◌∙◌}
use mathlib.Core.List.{List, [], ◌∷◌}
use lib.ListN.{get_or}
use Rattle.refusals.specs.declared.Refusal.{Refusal}
use Rattle.refusals.specs.declared.Refusal.TheVariants.{NotWellFormed, NoOutline, OutlineThere, NoRing, BeyondGrid, BadNumber, SameDistrict, BadIndex, TooFew, NoMatch, NumbersInUse, NoRoom, BrokenRecord, CountFull, NotFinite, Missing, ListTooShort}
use Rattle.refusals.specs.Numbers.{number_of}

-- the refusals by their numbers, from 0 on; Missing stands for the numbers that no refusal has
abbrev by_number : List Refusal
by_number =
    Missing ∷ NotWellFormed ∷ NoOutline ∷ OutlineThere ∷ NoRing ∷ BeyondGrid ∷ BadNumber ∷ SameDistrict ∷ BadIndex ∷ TooFew ∷ NoMatch ∷ NumbersInUse
    ∷ NoRoom ∷ BrokenRecord ∷ CountFull ∷ Missing ∷ Missing ∷ Missing ∷ NotFinite
    ∷ Missing ∷ Missing ∷ Missing ∷ Missing ∷ Missing ∷ Missing ∷ Missing ∷ Missing ∷ Missing ∷ ListTooShort ∷ []

abbrev pub refusal_of : ℕ → Refusal
refusal_of n = get_or by_number n Missing

pub refusal-back : (r : Refusal) → refusal_of (number_of r) ≡ r
refusal-back NotWellFormed = refl
refusal-back NoOutline = refl
refusal-back OutlineThere = refl
refusal-back NoRing = refl
refusal-back BeyondGrid = refl
refusal-back BadNumber = refl
refusal-back SameDistrict = refl
refusal-back BadIndex = refl
refusal-back TooFew = refl
refusal-back NoMatch = refl
refusal-back NumbersInUse = refl
refusal-back NoRoom = refl
refusal-back BrokenRecord = refl
refusal-back CountFull = refl
refusal-back NotFinite = refl
refusal-back Missing = refl
refusal-back ListTooShort = refl

pub number_of-injective : (r s : Refusal) → number_of r ≡ number_of s → r ≡ s
number_of-injective r s e = sym (refusal-back r) ∙ ap refusal_of e ∙ refusal-back s
