-- Of a register held in columns and one held in pairs of the same numbers: a split and a merge answer the same and leave the same register. Assumes nothing.
use Prim.Native.Nat.{ℕ}
use mathlib.Core.Path.{◌≡◌, sym, transport, ◌∙◌}
use mathlib.Core.Bool.{Bool}
use mathlib.Core.List.{List}
use lib.IntN.{ℤ}
use Rattle.std.specs.Prelude.{Result}
use Rattle.ring.specs.Grid.{vertices}
use Rattle.refusals.specs.declared.Refusal.{Refusal}
use Rattle.refusals.specs.Verdicts.{Verdict, verdict}
use Rattle.districts.specs.Register.{Register}
use Rattle.districts.specs.Lent.{Lists, formed, means, Leaves}
use Rattle.districts.specs.Pairs as Pairs
use Rattle.districts.proofs.Pairs.{same-meaning, same-formed, ends-alike}
use Rattle.judging.specs.Splitting.{lowest_unused, split_tests}
use Rattle.judging.specs.Merging.{merge_tests}
use Rattle.changes.specs.Answers.{answer_of, answers}
use Rattle.changes.specs.Afterwards.{split, merge}
use Rattle.changes.specs.Calls.{ChangedBy, SplitBy, MergeBy}
use Rattle.changes.proofs.Unique.{answer-injective}

-- a change that is judged by v, answers number d and makes register g, all told by the register alone
module _ (v : Bool → Register → Verdict) (d : Register → ℕ) (g : Register → Register) where
  change-either-way : (r s : Result ℕ Refusal) (l l' : Lists) (p p' : Pairs.Lists) → Pairs.Alike l p → ChangedBy (v (formed l) (means l)) (d (means l)) (g (means l)) r l l'
      → answer_of s ≡ answers (v (Pairs.formed p) (Pairs.means p)) (d (Pairs.means p)) → Pairs.Leaves (v (Pairs.formed p) (Pairs.means p)) (g (Pairs.means p)) p p'
      → (r ≡ s) × (means l' ≡ Pairs.means p') × (formed l' ≡ Pairs.formed p')
  change-either-way r s l l' p p' a f said left =
      let same = same-meaning l p a in
      let well = same-formed l p a in
      let ends = ends-alike (v (Pairs.formed p) (Pairs.means p)) (g (Pairs.means p)) l l' p p' a (transport (λ i. Leaves (v (well i) (same i)) (g (same i)) l l') f.left) left in
      (answer-injective r s (f.said ∙ (λ i. answers (v (well i) (same i)) (d (same i))) ∙ sym said), ends.0, ends.1)

pub split-either-way : (r s : Result ℕ Refusal) (d i j : ℕ) (path : List ℤ) (l l' : Lists) (p p' : Pairs.Lists) → Pairs.Alike l p → SplitBy r d i j path l l'
    → answer_of s ≡ answers (verdict (split_tests (Pairs.formed p) (Pairs.means p) d i j path)) (lowest_unused (Pairs.means p))
    → Pairs.Leaves (verdict (split_tests (Pairs.formed p) (Pairs.means p) d i j path)) (split (Pairs.means p) d i j (vertices path)) p p'
    → (r ≡ s) × (means l' ≡ Pairs.means p') × (formed l' ≡ Pairs.formed p')
split-either-way r s d i j path = change-either-way (λ b g. verdict (split_tests b g d i j path)) lowest_unused (λ g. split g d i j (vertices path)) r s

pub merge-either-way : (r s : Result ℕ Refusal) (A a B b k : ℕ) (l l' : Lists) (p p' : Pairs.Lists) → Pairs.Alike l p → MergeBy r A a B b k l l'
    → answer_of s ≡ answers (verdict (merge_tests (Pairs.formed p) (Pairs.means p) A a B b k)) A
    → Pairs.Leaves (verdict (merge_tests (Pairs.formed p) (Pairs.means p) A a B b k)) (merge (Pairs.means p) A a B b k) p p'
    → (r ≡ s) × (means l' ≡ Pairs.means p') × (formed l' ≡ Pairs.formed p')
merge-either-way r s A a B b k = change-either-way (λ c g. verdict (merge_tests c g A a B b k)) (λ g. A) (λ g. merge g A a B b k) r s
