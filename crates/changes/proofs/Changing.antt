-- An accepted split or merge changes the register: no version fits that only says so, be it for every call or for the later ones.
-- Assumes nothing.
use Prim.Native.Nat.{ℕ, ◌<◌}
use native.Mathlib.Decide.{dec_lt}
use native.Mathlib.Omega.{arith}
use mathlib.Core.Path.{◌≡◌, refl, sym, ap, subst, ◌∙◌}
use mathlib.Core.Bool.{true, false, not, true≢false}
use mathlib.Core.List.{List}
use lib.IntN.{ℤ}
use lib.ListN.{length, set, length-set, get_or-eq_default}
use lib.Seq.{get_or-set_same}
use borrow.Author.Tests.{leb-false, not-true, not-false}
use Rattle.std.specs.Prelude.{Ok}
use Rattle.ring.specs.Grid.{vertices}
use Rattle.ring.proofs.Pick.{neither_right}
use Rattle.ring.proofs.Search.{lowest-is}
use Rattle.districts.specs.Register.{Slot, unused, ring, Register, slot, in_use, vertices_of}
use Rattle.districts.proofs.Meaning.{all-numbers}
use Rattle.refusals.specs.Verdicts.{Verdict, accept, verdict}
use Rattle.districts.specs.Lent.{Lists, outline_of, store_of, formed, means, Leaves}
use Rattle.refusals.proofs.Verdicts.{accepted}
use Rattle.judging.specs.Splitting.{piece_one, piece_two, lowest_unused, split_tests}
use Rattle.changes.specs.Afterwards.{split, merge}
use Rattle.judging.specs.Merging.{merged, merge_tests}
use Rattle.changes.specs.Calls.{ChangedBy, SplitBy, MergeBy}
use Rattle.changes.proofs.Outcomes.{accepting}

-- what was answered with a number was accepted, and left what it was to leave
granted : (v : Verdict) (d e : ℕ) (g : Register) (before after : Lists) → ChangedBy v d g (Ok e) before after → (v ≡ accept) × (means after ≡ g)
granted v d e g before after c =
    let yes = accepting v d e c.said in
    (yes, (subst (λ w. Leaves w g before after) yes c.left).1)

-- a number that one register uses and the other does not tells them apart
apart : (g h : Register) (d : ℕ) → in_use (slot g d) ≡ true → in_use (slot h d) ≡ false → g ≡ h → ⊥
apart g h d e f same = true≢false (sym e ∙ ap (λ k. in_use (slot k d)) same ∙ f)

-- the new number is unused before and has a ring afterwards
pub split-changes : (e d i j : ℕ) (path : List ℤ) (before after : Lists) → SplitBy (Ok e) d i j path before after → means after ≡ means before → ⊥
unfolding split lowest_unused
split-changes e d i j path before after c = apart (means after) (means before) new used free
  where
    g : Register
    g = means before

    new : ℕ
    new = lowest_unused g

    given : (verdict (split_tests (formed before) g d i j path) ≡ accept) × (means after ≡ split g d i j (vertices path))
    given = granted _ _ e _ before after c

    below : new < 64
    below = leb-false 64 new (accepted 11 _ _ (accepted 9 _ _ (accepted 5 _ _ (accepted 4 _ _ (accepted 8 _ _ (accepted 6 _ _ (accepted 2 _ _ (accepted 1 _ _ given.0).1).1).1).1).1).1).1).0

    free : in_use (slot g new) ≡ false
    free = not-true _ (lowest-is (λ k. not (in_use (slot g k))) 64 0 new refl below).0

    one : List Slot
    one = set g.districts d (ring (piece_one (vertices_of (slot g d)) i j (vertices path)))

    long : length one ≡ 64
    long = length-set g.districts d (ring (piece_one (vertices_of (slot g d)) i j (vertices path))) ∙ all-numbers (outline_of before) (store_of before) before.runs

    used : in_use (slot (means after) new) ≡ true
    used = ap (λ h. in_use (slot h new)) given.1 ∙ ap in_use (get_or-set_same one new (ring (piece_two (vertices_of (slot g d)) i j (vertices path))) unused (omega (arith, below, long)))

-- the number that goes is in use before and unused afterwards
pub merge-changes : (e A a B b k : ℕ) (before after : Lists) → MergeBy (Ok e) A a B b k before after → means after ≡ means before → ⊥
unfolding merge
merge-changes e A a B b k before after c same = apart (means before) (means after) B used free (sym same)
  where
    g : Register
    g = means before

    given : (verdict (merge_tests (formed before) g A a B b k) ≡ accept) × (means after ≡ merge g A a B b k)
    given = granted _ _ e _ before after c

    used : in_use (slot g B) ≡ true
    used = not-false _ (neither_right (not (in_use (slot g A))) (not (in_use (slot g B))) (accepted 6 _ _ (accepted 2 _ _ (accepted 1 _ _ given.0).1).1).0)

    kept : List Slot
    kept = set g.districts A (ring (merged (vertices_of (slot g A)) a (vertices_of (slot g B)) b k))

    long : length kept ≡ 64
    long = length-set g.districts A (ring (merged (vertices_of (slot g A)) a (vertices_of (slot g B)) b k)) ∙ all-numbers (outline_of before) (store_of before) before.runs

    below : B < 64
    below = elim (dec_lt B 64) [
      | yes less ↦ less
      | no more ↦ absurd (apart g g B used (ap in_use (get_or-eq_default g.districts unused (omega (arith, more, all-numbers (outline_of before) (store_of before) before.runs)))) refl)
    ]

    free : in_use (slot (means after) B) ≡ false
    free = ap (λ h. in_use (slot h B)) given.1 ∙ ap in_use (get_or-set_same kept B unused unused (omega (arith, below, long)))
