-- No second outcome fits the promise of decoding. Assumes nothing.
use Rattle.std.proofs.Common.{ℕ, ◌-◌, ◌/◌, ◌≡◌, refl, sym, ap, ◌∙◌, arith, List, ℤ, Some, None, Ok, Err, IsOkUnless}
use Rattle.refusals.specs.declared.Refusal.TheVariants.{BrokenRecord}
use Rattle.history.specs.Histories.{Call, founding, splitting, merging, reporting}
use Rattle.records.specs.declared.Record as Code
use Rattle.records.specs.declared.Record.TheVariants.{Outline, Split, Merge, Report}
use Rattle.records.specs.Layout.{Front, whole, more, broken}
use Rattle.records.specs.Decoding.{record_of, front_of, taken_of, Decodes}
use Rattle.records.proofs.Fronts.{Answer}

-- the record read back
abbrev of_call : Call → ℕ → Code.Record
of_call (founding xs) n = Outline ((n - 5) / 8)
of_call (splitting d i j path) n = Split (record { d = d; i = i; j = j }) ((n - 10) / 8)
of_call (merging A a B b k) n = Merge (record { kept = A; a = a; gone = B; b = b; k = k })
of_call (reporting r p) n = Report (record { number = r; position = p })

-- the answer read back, of the bytes that it takes
abbrev answer_of : Front → ℕ → Answer
answer_of (whole c n) taken = Ok (Some (record { «record» = of_call c n; taken = taken }))
answer_of more taken = Ok None
answer_of broken taken = Err BrokenRecord

record-back : (r : Code.Record) (taken : ℕ) (to : List ℤ) → answer_of (record_of r taken to) taken ≡ Ok (Some (record { «record» = r; taken = taken }))
record-back (Outline n) taken to = ap (λ k. Ok (Some (record { «record» = Outline k; taken = taken }))) (omega arith)
record-back (Split c k) taken to = ap (λ k. Ok (Some (record { «record» = Split c k; taken = taken }))) (omega arith)
record-back (Merge s) taken to = refl
record-back (Report s) taken to = refl

answer-back : (r : Answer) (to : List ℤ) → IsOkUnless r BrokenRecord → answer_of (front_of r to) (taken_of r) ≡ r
answer-back (Ok (Some d)) to h = record-back d.record d.taken to
answer-back (Ok None) to h = refl
answer-back (Err r) to h = ap Err (sym h)

-- two outcomes of one decoding are the same answer and leave the same list
pub record Same (r s : Answer) (after after' : List ℤ) : Type 0 where
  pub answer : r ≡ s
  pub list : after ≡ after'

pub one-decoding : (f : Front) (r s : Answer) (before after after' : List ℤ) → Decodes r f before after → Decodes s f before after' → Same r s after after'
one-decoding f r s before after after' d e = record {
  answer = sym (answer-back r after d.refused) ∙ (λ i. answer_of ((d.said ∙ sym e.said) i) ((d.counted ∙ sym e.counted) i)) ∙ answer-back s after' e.refused;
  list = d.left ∙ sym e.left;
}
