-- What the exported calls answer and leave: what the calls of `register`, `changes` and `tally` do, told as a code. Assumes nothing.
use Rattle.std.specs.Prelude.{ℕ, ◌≡◌, List, ℤ}
use Rattle.ring.specs.Grid.{vertices}
use Rattle.districts.specs.Register.{Register}
use Rattle.districts.specs.Answers.{Answer}
use Rattle.refusals.specs.Verdicts.{Verdict, verdict}
use Rattle.register.specs.Founding.{found_tests, founded}
use Rattle.districts.specs.Lent.{Lists, formed, means, Leaves}
use Rattle.tally.specs.Tally.{tallied, answered}
use Rattle.judging.specs.Splitting.{split_tests, lowest_unused}
use Rattle.judging.specs.Merging.{merge_tests}
use Rattle.changes.specs.Answers.{answers}
use Rattle.changes.specs.Afterwards.{split, merge}
use Rattle.codes.specs.Codes.{Code, verdict_code, change_code, answer_code, Tells}
use Rattle.codes.specs.Counts.{tally_of}

-- a call judged as v, told by code c, that leaves register g if nothing is refused
pub record ToldBy (v : Verdict) (c : Code) (g : Register) (r : ℕ) (values : List ℕ) (before after : Lists) : Type 0 where
  pub tells : Tells r values c
  pub left : Leaves v g before after

abbrev pub FoundTells : ℕ → List ℕ → List ℤ → Lists → Lists → Type 0
FoundTells r values xs before after = let v = verdict (found_tests (formed before) (means before) xs) in ToldBy v (verdict_code v) (founded xs) r values before after

abbrev pub SplitTells : ℕ → List ℕ → ℕ → ℕ → ℕ → List ℤ → Lists → Lists → Type 0
SplitTells r values d i j path before after =
    let v = verdict (split_tests (formed before) (means before) d i j path) in
    ToldBy v (change_code (answers v (lowest_unused (means before)))) (split (means before) d i j (vertices path)) r values before after

abbrev pub MergeTells : ℕ → List ℕ → ℕ → ℕ → ℕ → ℕ → ℕ → Lists → Lists → Type 0
MergeTells r values A a B b k before after =
    let v = verdict (merge_tests (formed before) (means before) A a B b k) in
    ToldBy v (change_code (answers v A)) (merge (means before) A a B b k) r values before after

-- an assigned report a, counted in the list
pub record CountTells (r : ℕ) (values : List ℕ) (a : Answer) (before after : List ℕ) : Type 0 where
  pub tells : Tells r values (answer_code (answered (tally_of before) a))
  pub tally : tally_of after ≡ tallied (tally_of before) a
