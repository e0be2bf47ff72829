-- What a call is answered as a record of the stream, what it does to the tally, and what it leaves in the register's lists. Assumes nothing.
use Rattle.std.specs.Prelude.{◌≡◌, Bool}
use Rattle.districts.specs.Register.{Register}
use Rattle.districts.specs.Answers as Answers
use Rattle.districts.specs.Answers.{Answer, report}
use Rattle.refusals.specs.Verdicts.{Verdict, accept, refuse, verdict}
use Rattle.register.specs.Founding.{found_tests}
use Rattle.districts.specs.Lent.{Lists, formed, means, Leaves}
use Rattle.register.specs.Placing.{place_tests, assigned_at}
use Rattle.tally.specs.declared.Tally.{Tally}
use Rattle.tally.specs.Tally.{tallied, answered}
use Rattle.changes.specs.Answers as Changes
use Rattle.judging.specs.Splitting.{split_tests, lowest_unused}
use Rattle.judging.specs.Merging.{merge_tests}
use Rattle.history.specs.Histories.{Call, founding, splitting, merging, reporting, made}
use Rattle.wording.specs.Lines as Lines
use Rattle.wording.specs.Lines.{Kind, outline, split, merge, Said, ok, ok_with, sorted}

-- which refusal a call meets, if any, in a register whose lists may be damaged
unfoldable pub judged_on : Bool → Register → Call → Verdict
judged_on well_formed g (founding xs) = verdict (found_tests well_formed g xs)
judged_on well_formed g (splitting d i j path) = verdict (split_tests well_formed g d i j path)
judged_on well_formed g (merging A a B b k) = verdict (merge_tests well_formed g A a B b k)
judged_on well_formed g (reporting r p) = verdict (place_tests well_formed g p)

-- an accepted call is answered by what it has to say, a refused one by the refusal's number
abbrev pub saying_of : Verdict → Said → Said
saying_of accept s = s
saying_of (refuse n) s = Lines.refused n

-- the line of a report has its number already
abbrev pub belonging : Answer → Said
belonging (report r b) = sorted b
belonging (Answers.refused n) = Lines.refused n

-- a change's answer as its line says it
abbrev pub changing : Changes.Answer → Said
changing (Changes.done d) = ok_with d
changing (Changes.refused n) = Lines.refused n

-- an outline is answered by ok, a split by the new number, a merge by the kept one, a report by where it belongs, with the tally's refusal
unfoldable pub replied : Bool → Register → Tally → Call → Said
replied well_formed g t (founding xs) = saying_of (judged_on well_formed g (founding xs)) ok
replied well_formed g t (splitting d i j path) = saying_of (judged_on well_formed g (splitting d i j path)) (ok_with (lowest_unused g))
replied well_formed g t (merging A a B b k) = saying_of (judged_on well_formed g (merging A a B b k)) (ok_with A)
replied well_formed g t (reporting r p) = belonging (answered t (assigned_at well_formed g r p))

-- only reports are counted
unfoldable pub tallied_by : Bool → Register → Tally → Call → Tally
tallied_by well_formed g t (founding xs) = t
tallied_by well_formed g t (splitting d i j path) = t
tallied_by well_formed g t (merging A a B b k) = t
tallied_by well_formed g t (reporting r p) = tallied t (assigned_at well_formed g r p)

-- the word of a call's line
abbrev pub kind_of : Call → Kind
kind_of (founding xs) = outline
kind_of (splitting d i j path) = split
kind_of (merging A a B b k) = merge
kind_of (reporting r p) = Lines.report r

-- what a call makes of the register, or, refused, the very lists
abbrev pub Makes : Call → Lists → Lists → Type 0
Makes c before after = Leaves (judged_on (formed before) (means before) c) (made (means before) c) before after

-- a report leaves the very lists
abbrev pub LeftBy : Call → Lists → Lists → Type 0
LeftBy (founding xs) before after = Makes (founding xs) before after
LeftBy (splitting d i j path) before after = Makes (splitting d i j path) before after
LeftBy (merging A a B b k) before after = Makes (merging A a B b k) before after
LeftBy (reporting r p) before after = before ≡ after

-- a change of the register answers and leaves this; the tally is not asked
pub record ChangedBy (s : Said) (c : Call) (before after : Lists) : Type 0 where
  pub answer : (t : Tally) → s ≡ replied (formed before) (means before) t c
  pub left : Makes c before after
