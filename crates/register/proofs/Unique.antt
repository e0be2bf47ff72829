-- No second outcome fits the promises of founding and assigning, by a point and by a position. Assumes nothing.
use Prim.Native.Nat.{ℕ}
use native.Mathlib.Omega.{arith}
use mathlib.Core.Path.{◌≡◌, refl, sym, ap, ◌∙◌}
use mathlib.Core.Bool.{Bool}
use mathlib.Core.List.{List}
use lib.IntN.{ℤ}
use Rattle.std.specs.Prelude.{Result, Ok, Err}
use Rattle.refusals.specs.declared.Refusal.{Refusal}
use Rattle.districts.specs.declared.Report.{Report}
use Rattle.districts.specs.Register.{Register}
use Rattle.districts.specs.Answers.{answer_of}
use Rattle.districts.proofs.Unique.{answer_of-injective, both_left}
use Rattle.refusals.proofs.Numbers.{number_of-injective}
use Rattle.refusals.specs.Verdicts.{Verdict, accept, refuse, verdict_of}
use Rattle.register.specs.declared.Position.{Position}
use Rattle.register.specs.Sorting.{assigned}
use Rattle.register.specs.Placing.{assigned_at}
use Rattle.register.specs.Founding.{founded}
use Rattle.register.specs.Calls.{FoundBy}
use Rattle.districts.specs.Lent.{Lists, formed, means, Leaves}

pub one_answer : (good : Bool) (g : Register) (r : ℕ) (x y : ℤ) (a b : Result Report Refusal) → answer_of a ≡ assigned good g r x y → answer_of b ≡ assigned good g r x y → a ≡ b
one_answer good g r x y a b e f = answer_of-injective a b (e ∙ sym f)

pub one-answer-at : (good : Bool) (g : Register) (r : ℕ) (p : Position) (a b : Result Report Refusal) → answer_of a ≡ assigned_at good g r p → answer_of b ≡ assigned_at good g r p → a ≡ b
one-answer-at good g r p a b e f = answer_of-injective a b (e ∙ sym f)

pub verdict_of-injective : (r s : Result (Unit {0}) Refusal) → verdict_of r ≡ verdict_of s → r ≡ s
verdict_of-injective (Ok u) (Ok v) e = refl
verdict_of-injective (Ok u) (Err q) e = let clash : ◌≡◌ {A = ℕ} 0 1 = cc in absurd (let f : ⊥ = omega arith in f)
verdict_of-injective (Err q) (Ok u) e = let clash : ◌≡◌ {A = ℕ} 0 1 = cc in absurd (let f : ⊥ = omega arith in f)
verdict_of-injective (Err q) (Err p) e = ap Err (number_of-injective q p (cc))

-- two founded outcomes give the same answer and leave the same register; a refused one leaves the very lists that were lent
pub record Same (r s : Result (Unit {0}) Refusal) (after after' : Lists) : Type 0 where
  pub answer : r ≡ s
  pub meaning : means after ≡ means after'
  pub form : formed after ≡ formed after'

pub one-founding : (r s : Result (Unit {0}) Refusal) (xs : List ℤ) (before after after' : Lists) → FoundBy r xs before after → FoundBy s xs before after' → Same r s after after'
one-founding r s xs before after after' f g =
    let e = f.said ∙ sym g.said in
    let l = both_left (verdict_of r) (verdict_of s) e _ before after after' f.left g.left in
    record { answer = verdict_of-injective r s e; meaning = l.0; form = l.1 }

-- a refused founding leaves the very lists that were lent
pub refused-leaves : (r : Result (Unit {0}) Refusal) (n : ℕ) (xs : List ℤ) (before after : Lists) → FoundBy r xs before after → verdict_of r ≡ refuse n → before ≡ after
refused-leaves r n xs before after f e = say (verdict_of r) e f.left
  where
    say : (v : Verdict) → v ≡ refuse n → Leaves v (founded xs) before after → before ≡ after
    say accept e l = let clash : ◌≡◌ {A = ℕ} 0 1 = cc in absurd (let f : ⊥ = omega arith in f)
    say (refuse k) e l = l
