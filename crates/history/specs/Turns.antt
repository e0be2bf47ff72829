-- Calls as a program makes them on its lists: each turn is a call with what it answered and the lists that it left. Assumes nothing.
use Rattle.std.specs.Prelude.{ℕ, ◌≡◌, true, List, [], ◌∷◌, ℤ, Result}
use Rattle.districts.specs.declared.Report.{Report}
use Rattle.refusals.specs.declared.Refusal.{Refusal}
use Rattle.districts.specs.Answers.{answer_of}
use Rattle.register.specs.Calls.{FoundBy}
use Rattle.districts.specs.Lent.{Lists, formed, means}
use Rattle.register.specs.declared.Position.{Position}
use Rattle.register.specs.Placing.{assigned_at}
use Rattle.changes.specs.Calls.{SplitBy, MergeBy}
use Rattle.history.specs.Histories as Histories
use Rattle.history.specs.Histories.{Call}

-- a report leaves no lists: they are lent to it unchangeable
pub data Turn : Type 0 where
  founding : List ℤ → Result (Unit {0}) Refusal → Lists → Turn
  splitting : ℕ → ℕ → ℕ → List ℤ → Result ℕ Refusal → Lists → Turn
  merging : ℕ → ℕ → ℕ → ℕ → ℕ → Result ℕ Refusal → Lists → Turn
  reporting : ℕ → Position → Result Report Refusal → Turn

abbrev pub call_of : Turn → Call
call_of (founding xs r m) = Histories.founding xs
call_of (splitting d i j path r m) = Histories.splitting d i j path
call_of (merging A a B b k r m) = Histories.merging A a B b k
call_of (reporting r p a) = Histories.reporting r p

-- the lists after a turn
abbrev pub left_by : Lists → Turn → Lists
left_by l (founding xs r m) = m
left_by l (splitting d i j path r m) = m
left_by l (merging A a B b k r m) = m
left_by l (reporting r p a) = l

-- the turn is as the call promises: `register::found`, `changes::split`, `changes::merge`, `register::assign_at`
abbrev pub Promised : Lists → Turn → Type 0
Promised l (founding xs r m) = FoundBy r xs l m
Promised l (splitting d i j path r m) = SplitBy r d i j path l m
Promised l (merging A a B b k r m) = MergeBy r A a B b k l m
Promised l (reporting r p a) = answer_of a ≡ assigned_at (formed l) (means l) r p

unfoldable pub calls : List Turn → List Call
calls [] = []
calls (t ∷ ts) = call_of t ∷ calls ts

-- the lists after all turns
unfoldable pub last : Lists → List Turn → Lists
last l [] = l
last l (t ∷ ts) = last (left_by l t) ts

-- every turn is as promised
unfoldable pub Ran : Lists → List Turn → Type 0
Ran l [] = Unit
Ran l (t ∷ ts) = Promised l t × Ran (left_by l t) ts

-- the lists hold an empty register
abbrev pub Fresh : Lists → Type 0
Fresh l = (formed l ≡ true) × (means l ≡ Histories.empty)
