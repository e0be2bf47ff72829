-- Refusals as the rules order them: a table of tests, and the first that holds. Assumes nothing.
use Rattle.std.specs.Prelude.{ℕ, Bool, true, false, List, [], ◌∷◌, Result, Ok, Err}
use Rattle.refusals.specs.declared.Refusal.{Refusal}
use Rattle.refusals.specs.Numbers.{number_of}

-- a refusal's number and its condition
infix 4 ◌if◌
pub data Test : Type 0 where
  ◌if◌ : ℕ → Bool → Test

pub data Verdict : Type 0 where
  accept : Verdict
  refuse : ℕ → Verdict

-- a refusal is given exactly when its condition holds and no earlier one does
unfoldable pub verdict : List Test → Verdict
verdict [] = accept
verdict ((n if true) ∷ ts) = refuse n
verdict ((n if false) ∷ ts) = verdict ts

-- what a judge of the code says: nothing, or why it refuses
abbrev pub verdict_of : Result (Unit {0}) Refusal → Verdict
verdict_of (Ok u) = accept
verdict_of (Err r) = refuse (number_of r)
