-- What every accepted call keeps holds after any list of calls. Assumes nothing.
use Prim.Native.Nat.{ℕ}
use mathlib.Core.Path.{◌≡◌, refl, ap}
use mathlib.Core.List.{List, [], ◌∷◌}
use Rattle.districts.specs.Register.{Register}
use Rattle.refusals.specs.Verdicts.{Verdict, accept, refuse}
use Rattle.history.specs.Histories.{Call, judged, made, taken, step, after}

module _ (I : Register → Type 0) (keeps : (g : Register) (c : Call) → I g → judged g c ≡ accept → I (made g c)) where
  once : (g : Register) (c : Call) → I g → I (step g c)
  unfolding step
  once g c holds = say (judged g c) refl
    where
      say : (v : Verdict) → judged g c ≡ v → I (taken v g (made g c))
      say accept e = keeps g c holds e
      say (refuse n) e = holds

  pub every : (g : Register) → I g → (cs : List Call) → I (after g cs)
  unfolding after
  every g holds [] = holds
  every g holds (c ∷ cs) = every (step g c) (once g c holds) cs

-- a refused call changes nothing
pub refused-keeps : (g : Register) (c : Call) (n : ℕ) → judged g c ≡ refuse n → step g c ≡ g
unfolding step
refused-keeps g c n e = ap (λ v. taken v g (made g c)) e
