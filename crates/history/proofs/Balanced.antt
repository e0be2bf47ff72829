-- For every weight of an edge that changes its sign with the edge's direction, the sum over the rings of all districts in use is the sum
-- over the outline, after any list of calls. Assumes nothing.
use Prim.Native.Nat.{ℕ, suc, ◌<◌}
use native.Mathlib.Omega.{arith}
use mathlib.Core.Path.{◌≡◌, refl, sym, ap, ◌∙◌}
use mathlib.Core.Bool.{true, not}
use mathlib.Core.List.{List}
use lib.Dec.{eqb}
use lib.IntN.{ℤ, ◌+ℤ◌, +ℤ_idr}
use lib.ListN.{length, set, length-set}
use borrow.Author.Tests.{ne_eqb, not-true}
use Rattle.ring.specs.Grid.{vertices}
use Rattle.ring.specs.Choices.{pick}
use Rattle.ring.specs.Rings.{Weight, Antisymmetric, ring_sum}
use Rattle.ring.proofs.Pick.{pick-false}
use Rattle.ring.proofs.Search.{lowest-is}
use Rattle.districts.specs.Counts.{list_to}
use Rattle.districts.specs.Register.{Slot, unused, ring, Register, slot, in_use, vertices_of}
use Rattle.districts.proofs.Meaning.{list-long}
use Rattle.refusals.specs.Verdicts.{accept}
use Rattle.register.specs.Founding.{founded}
use Rattle.judging.specs.Splitting.{lowest_unused}
use Rattle.changes.specs.Afterwards.{split, merge}
use Rattle.judging.proofs.Sums.{split-sum, merge-sum}
use Rattle.history.specs.Histories.{Call, founding, splitting, merging, reporting, empty, judged, made, after}
use Rattle.history.specs.Adding.{sum_over, slot_sum}
use Rattle.history.proofs.Every.{every}
use Rattle.judging.proofs.Told.{used-ring, unused-slot, used-below, split-told, merge-told}
use Rattle.history.proofs.Slots.{sum-none, two-set}

pub record Balanced (f : Weight) (g : Register) : Type 0 where
  pub full : length g.districts ≡ 64
  pub sums : sum_over (slot_sum f) g.districts ≡ slot_sum f g.outline

-- the number that a split takes is unused
pub new-unused : (g : Register) → lowest_unused g < 64 → slot g (lowest_unused g) ≡ unused
unfolding lowest_unused
new-unused g h = unused-slot (slot g (lowest_unused g)) (not-true _ (lowest-is (λ d. not (in_use (slot g d))) 64 0 (lowest_unused g) refl h).0)

module _ (f : Weight) (anti : Antisymmetric f) where
  abbrev sum : Slot → ℤ
  sum = slot_sum f

  empty-balanced : Balanced f empty
  unfolding empty
  empty-balanced = record { full = list-long 64 (λ d. unused); sums = sum-none sum refl 64 (λ d. unused) (λ i h. refl) }

  founded-balanced : (xs : List ℤ) → Balanced f (founded xs)
  unfolding founded list_to sum_over
  founded-balanced xs = record {
    full = list-long 64 (λ d. only d);
    sums = ap (λ z. ring_sum f (vertices xs) +ℤ z) (sum-none sum refl 63 (λ i. only (suc i)) (λ i h. pick-false (ne_eqb (suc i) 0 (λ (e : suc i ≡ 0). omega arith)) _ _)) ∙ +ℤ_idr (ring_sum f (vertices xs));
  }
    where
      only : ℕ → Slot
      only d = pick (eqb d 0) (ring (vertices xs)) unused

  split-balanced : (g : Register) (d i j : ℕ) (path : List ℤ) → Balanced f g → judged g (splitting d i j path) ≡ accept → Balanced f (split g d i j (vertices path))
  unfolding judged split
  split-balanced g d i j path b fine =
      let t = split-told true g d i j path fine in
      let P = vertices_of (slot g d) in
      let its = used-ring (slot g d) t.used in
      let free = new-unused g t.number in
      let below = used-below g d t.used in
      let new : lowest_unused g < length g.districts = omega (arith, b.full, t.number) in
      record {
        full = length-set (set g.districts d _) (lowest_unused g) _ ∙ length-set g.districts d _ ∙ b.full;
        sums =
            two-set sum g.districts d (lowest_unused g) _ _ below new
            (λ e. clash (slot g d) (sym (ap (slot g) e) ∙ free) its)
            (split-sum f anti P (vertices path) i j t.lower t.other t.differ ∙ sym (+ℤ_idr (ring_sum f P)) ∙ (λ u. sum (sym its u) +ℤ sum (sym free u)))
            ∙ b.sums;
      }
    where
      clash : (s : Slot) → s ≡ unused → s ≡ ring (vertices_of s) → ⊥
      clash s e h = let same : ◌≡◌ {A = ℕ} 0 1 = ap pegged (sym e ∙ h) in omega arith
        where
          pegged : Slot → ℕ
          pegged unused = 0
          pegged (ring P) = 1

  merge-balanced : (g : Register) (A a B b k : ℕ) → Balanced f g → judged g (merging A a B b k) ≡ accept → Balanced f (merge g A a B b k)
  unfolding judged merge
  merge-balanced g A a B b k bal fine =
      let t = merge-told true g A a B b k fine in
      let P = vertices_of (slot g A) in
      let Q = vertices_of (slot g B) in
      let its = used-ring (slot g A) t.kept in
      let theirs = used-ring (slot g B) t.gone in
      record {
        full = length-set (set g.districts A _) B _ ∙ length-set g.districts A _ ∙ bal.full;
        sums =
            two-set sum g.districts A B _ _ (used-below g A t.kept) (used-below g B t.gone) (λ e. t.differ (sym e))
            (+ℤ_idr _ ∙ merge-sum f anti P Q a b k t.first t.second t.least t.fewer t.also t.match ∙ (λ u. sum (sym its u) +ℤ sum (sym theirs u)))
            ∙ bal.sums;
      }

  keeps : (g : Register) (c : Call) → Balanced f g → judged g c ≡ accept → Balanced f (made g c)
  unfolding made
  keeps g (founding xs) b fine = founded-balanced xs
  keeps g (splitting d i j path) b fine = split-balanced g d i j path b fine
  keeps g (merging A a B k m) b fine = merge-balanced g A a B k m b fine
  keeps g (reporting r p) b fine = b

  pub balanced : (cs : List Call) → Balanced f (after empty cs)
  balanced cs = every (Balanced f) keeps empty empty-balanced cs

-- demand 3, for every antisymmetric weight
pub districts-add-up : (f : Weight) → Antisymmetric f → (cs : List Call) → sum_over (slot_sum f) (after empty cs).districts ≡ slot_sum f (after empty cs).outline
districts-add-up f anti cs = (balanced f anti cs).sums
