-- What a change answers and leaves. Assumes nothing.
use Rattle.std.specs.Prelude.{ℕ, ◌≡◌, List, ℤ, Result}
use Rattle.ring.specs.Grid.{vertices}
use Rattle.districts.specs.Register.{Register}
use Rattle.refusals.specs.declared.Refusal.{Refusal}
use Rattle.refusals.specs.Verdicts.{Verdict, verdict}
use Rattle.districts.specs.Lent.{Lists, formed, means, Leaves}
use Rattle.judging.specs.Splitting.{lowest_unused, split_tests}
use Rattle.judging.specs.Merging.{merge_tests}
use Rattle.changes.specs.Answers.{answer_of, answers}
use Rattle.changes.specs.Afterwards.{split, merge}

-- what a change answers and leaves, judged as v, where district d is answered and register g is left: a refusal, and the lists as they
-- were; or the district's number, and lists that mean g
pub record ChangedBy (v : Verdict) (d : ℕ) (g : Register) (r : Result ℕ Refusal) (before after : Lists) : Type 0 where
  pub said : answer_of r ≡ answers v d
  pub left : Leaves v g before after

-- splitting: the new piece's number, and the split register
abbrev pub SplitBy : Result ℕ Refusal → ℕ → ℕ → ℕ → List ℤ → Lists → Lists → Type 0
SplitBy r d i j path before after = ChangedBy (verdict (split_tests (formed before) (means before) d i j path)) (lowest_unused (means before)) (split (means before) d i j (vertices path)) r before after

-- merging: the kept number, and the merged register
abbrev pub MergeBy : Result ℕ Refusal → ℕ → ℕ → ℕ → ℕ → ℕ → Lists → Lists → Type 0
MergeBy r A a B b k before after = ChangedBy (verdict (merge_tests (formed before) (means before) A a B b k)) A (merge (means before) A a B b k) r before after
