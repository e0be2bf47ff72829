-- Of a register held in columns and one held in pairs of the same numbers: founding and assigning answer the same, and founding leaves the same register. Assumes nothing.
use Prim.Native.Nat.{ℕ}
use mathlib.Core.Path.{◌≡◌, sym, subst, ◌∙◌}
use mathlib.Core.List.{List}
use lib.IntN.{ℤ}
use Rattle.refusals.specs.Verdicts.{verdict, verdict_of}
use Rattle.std.specs.Prelude.{Result}
use Rattle.refusals.specs.declared.Refusal.{Refusal}
use Rattle.districts.specs.declared.Report.{Report}
use Rattle.districts.specs.Answers.{answer_of}
use Rattle.districts.specs.Lent.{Lists, formed, means, Leaves}
use Rattle.districts.specs.Pairs as Pairs
use Rattle.districts.proofs.Unique.{answer_of-injective}
use Rattle.districts.proofs.Pairs.{same-meaning, same-formed, ends-alike}
use Rattle.register.specs.declared.Position.{Position}
use Rattle.register.specs.Sorting.{assigned}
use Rattle.register.specs.Placing.{assigned_at}
use Rattle.register.specs.Founding.{found_tests, founded}
use Rattle.register.specs.Calls.{FoundBy}
use Rattle.register.proofs.Unique.{verdict_of-injective}

pub found-either-way : (r s : Result (Unit {0}) Refusal) (xs : List ℤ) (l l' : Lists) (p p' : Pairs.Lists) → Pairs.Alike l p → FoundBy r xs l l'
    → verdict_of s ≡ verdict (found_tests (Pairs.formed p) (Pairs.means p) xs) → Pairs.Leaves (verdict_of s) (founded xs) p p'
    → (r ≡ s) × (means l' ≡ Pairs.means p') × (formed l' ≡ Pairs.formed p')
found-either-way r s xs l l' p p' a f said left =
    let same : verdict_of r ≡ verdict_of s = f.said ∙ (λ i. verdict (found_tests (same-formed l p a i) (same-meaning l p a i) xs)) ∙ sym said in
    let ends = ends-alike (verdict_of s) (founded xs) l l' p p' a (subst (λ v. Leaves v (founded xs) l l') same f.left) left in
    (verdict_of-injective r s same, ends.0, ends.1)

pub assign-either-way : (r s : Result Report Refusal) (n : ℕ) (x y : ℤ) (l : Lists) (p : Pairs.Lists) → Pairs.Alike l p → answer_of r ≡ assigned (formed l) (means l) n x y
    → answer_of s ≡ assigned (Pairs.formed p) (Pairs.means p) n x y → r ≡ s
assign-either-way r s n x y l p a e f = answer_of-injective r s (e ∙ (λ i. assigned (same-formed l p a i) (same-meaning l p a i) n x y) ∙ sym f)

pub assign-at-either-way : (r s : Result Report Refusal) (n : ℕ) (at : Position) (l : Lists) (p : Pairs.Lists) → Pairs.Alike l p → answer_of r ≡ assigned_at (formed l) (means l) n at
    → answer_of s ≡ assigned_at (Pairs.formed p) (Pairs.means p) n at → r ≡ s
assign-at-either-way r s n at l p a e f = answer_of-injective r s (e ∙ (λ i. assigned_at (same-formed l p a i) (same-meaning l p a i) n at) ∙ sym f)
