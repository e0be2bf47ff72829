-- What founding leaves in the lists. Assumes nothing.
use Rattle.std.specs.Prelude.{ℕ, ◌≡◌, List, ℤ, length, set, Result}
use Rattle.refusals.specs.declared.Refusal.{Refusal}
use Rattle.refusals.specs.Verdicts.{verdict, verdict_of}
use Rattle.ring.specs.declared.Point.{Point}
use Rattle.districts.specs.Lent.{Lists, outline_of, store_of, formed, means, Leaves, written}
use Rattle.register.specs.Founding.{found_tests, founded}

-- the runs of a register of one outline and district 0, of n vertices each
abbrev pub placed : List ℕ → ℕ → List ℕ
placed runs n = set (set (set runs 0 n) 1 0) 65 n

-- what writing an outline leaves
pub record Wrote (P : List Point) (before after : Lists) : Type 0 where
  pub outline : outline_of after ≡ written P (outline_of before)
  pub store : store_of after ≡ written P (store_of before)
  pub runs : after.runs ≡ placed before.runs (length P)

-- what founding answers and leaves: the first refusal that holds, and the lists as they were; or the register with this outline and district 0
pub record FoundBy (r : Result (Unit {0}) Refusal) (xs : List ℤ) (before after : Lists) : Type 0 where
  pub said : verdict_of r ≡ verdict (found_tests (formed before) (means before) xs)
  pub left : Leaves (verdict_of r) (founded xs) before after
