-- What a change answered and left, put together. Assumes nothing.
use Prim.Native.Nat.{ℕ}
use mathlib.Core.Path.{◌≡◌, refl, sym, ap, subst, ◌∙◌}
use mathlib.Core.Bool.{true}
use mathlib.Core.List.{List}
use lib.IntN.{ℤ}
use Rattle.std.specs.Prelude.{Ok}
use Rattle.districts.specs.Register.{Register}
use Rattle.refusals.specs.Verdicts.{Verdict, accept, refuse}
use Rattle.districts.specs.Lent.{Lists, lent, formed, means, Leaves}
use Rattle.changes.specs.Answers.{done, answers}
use Rattle.changes.specs.Calls.{ChangedBy}

-- a number is answered only where nothing is refused
pub accepting : (v : Verdict) (n e : ℕ) → done e ≡ answers v n → v ≡ accept
accepting accept n e f = refl
accepting (refuse k) n e f = cc

module _ (v : Verdict) (d : ℕ) (g : Register) (l : Lists) where
  -- what is left stands in the lists that were lent for it
  pub change-done : (e : ℕ) (sx sy sx' sy' : List ℤ) (runs runs' : List ℕ) → sx ≡ sx' → sy ≡ sy' → runs ≡ runs' → e ≡ d → v ≡ accept
      → formed (lent l.ox l.oy sx' sy' runs') ≡ true → means (lent l.ox l.oy sx' sy' runs') ≡ g → ChangedBy v d g (Ok e) l (lent l.ox l.oy sx sy runs)
  change-done e sx sy sx' sy' runs runs' x y r is granted well sense =
      let after : lent l.ox l.oy sx sy runs ≡ lent l.ox l.oy sx' sy' runs' = λ i. lent l.ox l.oy (x i) (y i) (r i) in
      record {
        said = ap done is ∙ sym (ap (λ w. answers w d) granted);
        left = subst (λ w. Leaves w g l (lent l.ox l.oy sx sy runs)) (sym granted) (ap formed after ∙ well, ap means after ∙ sense);
      }
