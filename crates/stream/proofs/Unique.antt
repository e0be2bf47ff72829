-- No second outcome fits the promise of taking a record. Assumes nothing.
use Prim.Native.Nat.{ℕ}
use mathlib.Core.Path.{◌≡◌, refl, sym, ap, ◌∙◌}
use mathlib.Core.List.{List}
use lib.IntN.{ℤ}
use Rattle.std.specs.Prelude.{Option, Some, None, Result, Ok, Err, IsOkUnless}
use Rattle.refusals.specs.declared.Refusal.{Refusal}
use Rattle.refusals.specs.declared.Refusal.TheVariants.{BrokenRecord}
use Rattle.districts.proofs.Unique.{class_of, class_back, both_left}
use Rattle.districts.specs.Lent.{Lists, formed, means}
use Rattle.tally.specs.declared.Tally.{Tally}
use Rattle.history.specs.Histories.{Call, founding, splitting, merging, reporting, made}
use Rattle.wording.specs.declared.Kind as CodeKind
use Rattle.wording.specs.declared.Kind.TheVariants as Kinds
use Rattle.wording.specs.declared.Said as CodeSaid
use Rattle.wording.specs.declared.Said.TheVariants.{OkWith, Sorted, Refused}
use Rattle.wording.specs.declared.Said.TheVariants as Saids
use Rattle.wording.specs.Lines.{Kind, outline, split, merge, report, broken, kind_of, Said, ok, ok_with, sorted, refused, said_of}
use Rattle.records.specs.Layout as Layout
use Rattle.records.specs.Layout.{Front, whole, more}
use Rattle.stream.specs.declared.advancing.Advanced.{Advanced}
use Rattle.stream.specs.Replies.{judged_on, Makes, LeftBy}
use Rattle.stream.specs.Advancing.{Told, answered, unfinished, unreadable, told_of, taken_of, LeftFor, AdvancedBy}

-- the code's values read back
abbrev kind_back : Kind → CodeKind.Kind
kind_back outline = Kinds.Outline
kind_back split = Kinds.Split
kind_back merge = Kinds.Merge
kind_back (report r) = Kinds.Report r
kind_back broken = Kinds.Broken

kind-back : (k : CodeKind.Kind) → kind_back (kind_of k) ≡ k
kind-back Kinds.Outline = refl
kind-back Kinds.Split = refl
kind-back Kinds.Merge = refl
kind-back (Kinds.Report r) = refl
kind-back Kinds.Broken = refl

abbrev said_back : Said → CodeSaid.Said
said_back ok = Saids.Ok
said_back (ok_with d) = OkWith d
said_back (sorted b) = Sorted (class_of b)
said_back (refused n) = Refused n

said-back : (s : CodeSaid.Said) → said_back (said_of s) ≡ s
said-back Saids.Ok = refl
said-back (OkWith d) = refl
said-back (Sorted c) = ap Sorted (class_back c)
said-back (Refused n) = refl

-- an answer by what it tells and how many bytes it takes; a broken record has one refusal
abbrev answer_back : Told → ℕ → Result (Option Advanced) Refusal
answer_back (answered k s) n = Ok (Some (record { kind = kind_back k; said = said_back s; taken = n }))
answer_back unfinished n = Ok None
answer_back unreadable n = Err BrokenRecord

answer-back : (r : Result (Option Advanced) Refusal) → IsOkUnless r BrokenRecord → answer_back (told_of r) (taken_of r) ≡ r
answer-back (Ok (Some a)) h = λ i. Ok (Some (record { kind = kind-back a.kind i; said = said-back a.said i; taken = a.taken }))
answer-back (Ok None) h = refl
answer-back (Err r) h = ap Err (sym h)

-- two lists left mean the same register, in form and meaning
abbrev Alike : Lists → Lists → Type 0
Alike after after' = (means after ≡ means after') × (formed after ≡ formed after')

alike : (before after after' : Lists) → before ≡ after → before ≡ after' → Alike after after'
alike before after after' e f = (ap means (sym e ∙ f), ap formed (sym e ∙ f))

made_alike : (c : Call) (before after after' : Lists) → Makes c before after → Makes c before after' → Alike after after'
made_alike c before after after' = let v = judged_on (formed before) (means before) c in both_left v v refl (made (means before) c) before after after'

left-alike : (c : Call) (before after after' : Lists) → LeftBy c before after → LeftBy c before after' → Alike after after'
left-alike (founding xs) before after after' = made_alike (founding xs) before after after'
left-alike (splitting d i j path) before after after' = made_alike (splitting d i j path) before after after'
left-alike (merging A a B b k) before after after' = made_alike (merging A a B b k) before after after'
left-alike (reporting r p) before after after' = alike before after after'

front-alike : (f : Front) (before after after' : Lists) → LeftFor f before after → LeftFor f before after' → Alike after after'
front-alike (whole c n) before after after' = left-alike c before after after'
front-alike more before after after' = alike before after after'
front-alike Layout.broken before after after' = alike before after after'

-- two outcomes of one record answer the same, and leave the same tally, coordinates and register
pub record Same (r s : Result (Option Advanced) Refusal) (t t' : Tally) (to to' : List ℤ) (after after' : Lists) : Type 0 where
  pub answer : r ≡ s
  pub tally : t ≡ t'
  pub coordinates : to ≡ to'
  pub meaning : means after ≡ means after'
  pub form : formed after ≡ formed after'

pub one-advance : (r s : Result (Option Advanced) Refusal) (f : Front) (t u u' : Tally) (lent to to' : List ℤ) (before after after' : Lists) → AdvancedBy r f t u lent to before after → AdvancedBy s f t u' lent to' before after' → Same r s u u' to to' after after'
one-advance r s f t u u' lent to to' before after after' p q =
    let l = front-alike f before after after' p.left q.left in
    record {
      answer = sym (answer-back r p.refused) ∙ (λ i. answer_back ((p.told ∙ sym q.told) i) ((p.taken ∙ sym q.taken) i)) ∙ answer-back s q.refused;
      tally = p.tally ∙ sym q.tally;
      coordinates = p.coordinates ∙ sym q.coordinates;
      meaning = l.0;
      form = l.1;
    }
