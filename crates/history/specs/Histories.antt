-- The rules' calls as values, and the register that a list of them makes of another. Assumes nothing.
use Rattle.std.specs.Prelude.{ℕ, true, List, [], ◌∷◌, ℤ}
use Rattle.ring.specs.Grid.{vertices}
use Rattle.districts.specs.Counts.{list_to}
use Rattle.districts.specs.Register.{unused, Register, numbers}
use Rattle.refusals.specs.Verdicts.{Verdict, accept, refuse, verdict}
use Rattle.register.specs.Founding.{found_tests, founded}
use Rattle.register.specs.declared.Position.{Position}
use Rattle.register.specs.Placing.{place_tests}
use Rattle.judging.specs.Splitting.{split_tests}
use Rattle.changes.specs.Afterwards.{split, merge}
use Rattle.judging.specs.Merging.{merge_tests}

-- a call, with all that its caller hands over
pub data Call : Type 0 where
  founding : List ℤ → Call
  splitting : ℕ → ℕ → ℕ → List ℤ → Call
  merging : ℕ → ℕ → ℕ → ℕ → ℕ → Call
  reporting : ℕ → Position → Call

-- the register before any call
unfoldable pub empty : Register
empty = record { outline = unused; districts = list_to numbers (λ d. unused) }

-- which refusal a call meets, if any; the register is well-formed
unfoldable pub judged : Register → Call → Verdict
judged g (founding xs) = verdict (found_tests true g xs)
judged g (splitting d i j path) = verdict (split_tests true g d i j path)
judged g (merging A a B b k) = verdict (merge_tests true g A a B b k)
judged g (reporting r p) = verdict (place_tests true g p)

-- what an accepted call makes of the register
unfoldable pub made : Register → Call → Register
made g (founding xs) = founded xs
made g (splitting d i j path) = split g d i j (vertices path)
made g (merging A a B b k) = merge g A a B b k
made g (reporting r p) = g

-- an accepted call leaves what it makes, a refused one what was there
abbrev pub taken : Verdict → Register → Register → Register
taken accept g h = h
taken (refuse n) g h = g

unfoldable pub step : Register → Call → Register
step g c = taken (judged g c) g (made g c)

-- one call after the other
unfoldable pub after : Register → List Call → Register
after g [] = g
after g (c ∷ cs) = after (step g c) cs
