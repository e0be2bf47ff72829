-- What a change answers, and how the code says it. Assumes nothing.
use Rattle.std.specs.Prelude.{ℕ, Result, Ok, Err}
use Rattle.refusals.specs.Numbers.{number_of}
use Rattle.refusals.specs.Verdicts.{Verdict, accept, refuse}
use Rattle.refusals.specs.declared.Refusal.{Refusal}

-- a district's number, or a refusal's
pub data Answer : Type 0 where
  done : ℕ → Answer
  refused : ℕ → Answer

abbrev pub answer_of : Result ℕ Refusal → Answer
answer_of (Ok d) = done d
answer_of (Err r) = refused (number_of r)

-- the number is answered where nothing is refused
abbrev pub answers : Verdict → ℕ → Answer
answers accept d = done d
answers (refuse n) d = refused n
