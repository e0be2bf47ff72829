-- `storing::lower` takes one first place after the other. The invariant: those below e are lowered, the others are as they were, and
-- so is everything that is no first place. Assumes nothing.
use Prim.Native.Nat.{ℕ, ◌-◌, ◌<◌}
use mathlib.Core.Path.{◌≡◌}
use mathlib.Core.List.{List}
use mathlib.Core.Logic.{◌⊎◌}
use lib.Dec.{leb}
use lib.ListN.{length, get_or}
use Rattle.ring.specs.Choices.{pick}
use Rattle.districts.specs.Lists.{first_place}
use Rattle.room.proofs.storing.lower.Given as goal

pub record Lowering (runs₀ : List ℕ) (end n : ℕ) (runs : List ℕ) (e : ℕ) : Type 0 where
  pub long : length runs ≡ length runs₀
  pub done : (k : ℕ) → k < e → first_place runs k ≡ pick (leb end (first_place runs₀ k)) (first_place runs₀ k - n) (first_place runs₀ k)
  pub others : (k : ℕ) → (k ≡ 0) ⊎ (e < k) → get_or runs k 0 ≡ get_or runs₀ k 0

abbrev pub invariant-loop-e : goal.invariant-loop-e
invariant-loop-e l = Lowering l.initial.runs l.end l.n l.runs l.e
