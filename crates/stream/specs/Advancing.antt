-- What taking the record at the front of a stream's bytes answers and leaves. Assumes nothing.
use Rattle.std.specs.Prelude.{ℕ, ◌≡◌, Bool, List, ℤ, Option, Some, None, Result, Ok, Err, IsOkUnless}
use Rattle.districts.specs.Register.{Register}
use Rattle.districts.specs.Lent.{Lists, formed, means, written}
use Rattle.refusals.specs.declared.Refusal.{Refusal}
use Rattle.refusals.specs.declared.Refusal.TheVariants.{BrokenRecord}
use Rattle.tally.specs.declared.Tally.{Tally}
use Rattle.wording.specs.Lines as Lines
use Rattle.wording.specs.Lines.{Kind, Said, said_of}
use Rattle.records.specs.Layout.{Front, whole, more, broken}
use Rattle.records.specs.Decoding.{taken_for, written_for}
use Rattle.stream.specs.declared.advancing.Advanced.{Advanced}
use Rattle.stream.specs.Replies.{replied, tallied_by, kind_of, LeftBy}

-- a record with its kind and answer, the beginning of one, or a broken one
pub data Told : Type 0 where
  answered : Kind → Said → Told
  unfinished : Told
  unreadable : Told

abbrev pub told_of : Result (Option Advanced) Refusal → Told
told_of (Ok (Some a)) = answered (Lines.kind_of a.kind) (said_of a.said)
told_of (Ok None) = unfinished
told_of (Err r) = unreadable

abbrev pub taken_of : Result (Option Advanced) Refusal → ℕ
taken_of (Ok (Some a)) = a.taken
taken_of (Ok None) = 0
taken_of (Err r) = 0

abbrev pub told_for : Front → Bool → Register → Tally → Told
told_for (whole c n) well_formed g t = answered (kind_of c) (replied well_formed g t c)
told_for more well_formed g t = unfinished
told_for broken well_formed g t = unreadable

abbrev pub tallied_for : Front → Bool → Register → Tally → Tally
tallied_for (whole c n) well_formed g t = tallied_by well_formed g t c
tallied_for more well_formed g t = t
tallied_for broken well_formed g t = t

abbrev pub LeftFor : Front → Lists → Lists → Type 0
LeftFor (whole c n) before after = LeftBy c before after
LeftFor more before after = before ≡ after
LeftFor broken before after = before ≡ after

-- the record is applied, its bytes are counted, and the lent coordinates start with its own; without a whole record nothing changes
pub record AdvancedBy (r : Result (Option Advanced) Refusal) (f : Front) (t t' : Tally) (to to' : List ℤ) (before after : Lists) : Type 0 where
  pub told : told_of r ≡ told_for f (formed before) (means before) t
  pub taken : taken_of r ≡ taken_for f
  pub tally : t' ≡ tallied_for f (formed before) (means before) t
  pub coordinates : to' ≡ written (written_for f) to
  pub left : LeftFor f before after
  pub refused : IsOkUnless r BrokenRecord
