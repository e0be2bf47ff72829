-- No second outcome fits the promise of splitting, nor that of merging. Assumes nothing.
use Prim.Native.Nat.{ℕ}
use mathlib.Core.Path.{◌≡◌, refl, sym, ap, ◌∙◌}
use mathlib.Core.List.{List}
use lib.IntN.{ℤ}
use Rattle.std.specs.Prelude.{Result, Ok, Err}
use Rattle.districts.specs.Register.{Register}
use Rattle.refusals.specs.Verdicts.{Verdict, accept, refuse}
use Rattle.districts.specs.Lent.{Lists, formed, means, Leaves}
use Rattle.districts.proofs.Unique.{both_left}
use Rattle.refusals.specs.declared.Refusal.{Refusal}
use Rattle.refusals.proofs.Numbers.{refusal_of, refusal-back}
use Rattle.refusals.specs.Numbers.{number_of}
use Rattle.changes.specs.Answers.{Answer, done, refused, answer_of, answers}
use Rattle.changes.specs.Calls.{ChangedBy, SplitBy, MergeBy}

-- the rules' numbers read back
abbrev code_of : Answer → Result ℕ Refusal
code_of (done d) = Ok d
code_of (refused n) = Err (refusal_of n)

code-back : (r : Result ℕ Refusal) → code_of (answer_of r) ≡ r
code-back (Ok d) = refl
code-back (Err r) = ap Err (refusal-back r)

pub answer-injective : (r s : Result ℕ Refusal) → answer_of r ≡ answer_of s → r ≡ s
answer-injective r s e = sym (code-back r) ∙ ap code_of e ∙ code-back s

-- two outcomes of one change give the same answer and leave the same register
pub record Same (r s : Result ℕ Refusal) (after after' : Lists) : Type 0 where
  pub answer : r ≡ s
  pub meaning : means after ≡ means after'
  pub form : formed after ≡ formed after'

one-change : (v : Verdict) (d : ℕ) (g : Register) (r s : Result ℕ Refusal) (before after after' : Lists) → ChangedBy v d g r before after → ChangedBy v d g s before after' → Same r s after after'
one-change v d g r s before after after' f h =
    let l = both_left v v refl g before after after' f.left h.left in
    record { answer = answer-injective r s (f.said ∙ sym h.said); meaning = l.0; form = l.1 }

pub one-splitting : (r s : Result ℕ Refusal) (d i j : ℕ) (path : List ℤ) (before after after' : Lists) → SplitBy r d i j path before after → SplitBy s d i j path before after' → Same r s after after'
one-splitting r s d i j path before after after' = one-change _ _ _ r s before after after'

pub one-merging : (r s : Result ℕ Refusal) (A a B b k : ℕ) (before after after' : Lists) → MergeBy r A a B b k before after → MergeBy s A a B b k before after' → Same r s after after'
one-merging r s A a B b k before after after' = one-change _ _ _ r s before after after'

-- a refused change leaves the very lists that were lent
pub refused-leaves : (v : Verdict) (d : ℕ) (g : Register) (q : Refusal) (before after : Lists) → ChangedBy v d g (Err q) before after → before ≡ after
refused-leaves v d g q before after f = say v f.said f.left
  where
    say : (v : Verdict) → refused (number_of q) ≡ answers v d → Leaves v g before after → before ≡ after
    say accept e l = cc
    say (refuse n) e l = l
