-- What is seen of the numbers below d when a report is sorted, and that it is where the report belongs: at the start, after one number
-- more, at a border, and when all numbers were seen. Assumes nothing.
use Prim.Native.Nat.{ℕ, zero, suc, ◌+◌, ◌-◌, ◌≤◌, ◌<◌}
use native.Mathlib.Nat.{zero-add, add-zero}
use native.Mathlib.Omega.{arith}
use mathlib.Core.Path.{◌≡◌, refl, sym, ap, subst, ◌∙◌}
use mathlib.Core.Bool.{Bool, true, false}
use borrow.Author.Tests.{lt-ltb}
use Rattle.std.specs.Prelude.{Option, Some, None}
use Rattle.ring.specs.Choices.{count}
use Rattle.ring.specs.Locate.{Touch, Place, on as at_ring, lowest}
use Rattle.ring.proofs.Pick.{pick_true}
use Rattle.ring.proofs.Search.{Unmet, unmet-more, lowest-none, lowest-first}
use Rattle.districts.specs.Counts.{sum_to}
use Rattle.districts.specs.Answers.{border}
use Rattle.districts.proofs.Counting.{sum-none, sum_more}
use Rattle.register.specs.declared.seen.Seen.{Seen}
use Rattle.register.specs.Seen.{first_of, lowest_of, OneMore}
use Rattle.register.specs.Sorting.{rests, winds, rests_at, by_count, sorted, sorted_by}

-- on no ring, and winding about none
abbrev pub Quiet : Place → Type 0
Quiet p = (rests p ≡ false) × (winds p ≡ false)

unmet-none : (p : ℕ → Bool) → Unmet p 0
unmet-none p j h = absurd (let f : ⊥ = omega arith in f)

-- the lowest of the numbers below d that passes a test, if one does
pub record Met (p : ℕ → Bool) (d l : ℕ) : Type 0 where
  pub below : l < d
  pub first : Unmet p l
  pub passes : p l ≡ true

abbrev pub Lowest : (ℕ → Bool) → ℕ → Option ℕ → Type 0
Lowest p d None = Unmet p d
Lowest p d (Some l) = Met p d l

module _ (p : ℕ → Bool) (d : ℕ) where
  lowest-with : (o : Option ℕ) → p d ≡ true → Lowest p d o → Lowest p (d + 1) (Some (first_of o d))
  lowest-with None e u = record { below = omega arith; first = u; passes = e }
  lowest-with (Some l) e m = record { below = omega arith; first = m.first; passes = m.passes }

  lowest-without : (o : Option ℕ) → p d ≡ false → Lowest p d o → Lowest p (d + 1) o
  lowest-without None e u = unmet-more p d e u
  lowest-without (Some l) e m = record { below = omega arith; first = m.first; passes = m.passes }

lowest-all : (p : ℕ → Bool) (o : Option ℕ) → Lowest p 64 o → lowest p 64 0 ≡ first_of o 64
lowest-all p None u = lowest-none p 64 0 (λ j g k. u j (omega arith)) ∙ zero-add 64
lowest-all p (Some l) m = lowest-first p 64 l m.first m.below m.passes

module _ (place : ℕ → Place) where
  -- on the ring of a number; winding about one
  abbrev on : ℕ → Bool
  on d = rests (place d)

  abbrev about : ℕ → Bool
  about d = winds (place d)

  pub record Sorts (d : ℕ) (s : Seen) : Type 0 where
    pub le : d ≤ 64
    pub clear : Unmet (λ k. rests (place k)) d
    pub many : s.many ≡ sum_to d (λ k. count (winds (place k)))
    pub few : s.many ≤ d
    pub noted : Lowest (λ k. winds (place k)) d s.lowest

  pub sorts-none : (s : Seen) → (s.lowest ≡ None) × (s.many ≡ 0) → Sorts 0 s
  sorts-none s e = record {
    le = omega arith;
    clear = unmet-none on;
    many = e.1 ∙ sum-none (λ k. count (about k));
    few = omega arith;
    noted = subst (Lowest about 0) (sym e.0) (unmet-none about);
  }

  -- a number that it winds about
  pub sorts-more : (d : ℕ) (s t : Seen) → d < 64 → Sorts d s → (rests (place d) ≡ false) × (winds (place d) ≡ true) → OneMore s d t → Sorts (d + 1) t
  sorts-more d s t h l e m = record {
    le = omega arith;
    clear = unmet-more on d e.0 l.clear;
    many = m.many ∙ sum_more (λ k. count (about k)) d s.many 1 l.many (ap count (sym e.1));
    few = omega (arith, m.many, l.few);
    noted = subst (Lowest about (d + 1)) (sym m.lowest) (lowest-with about d s.lowest e.1 l.noted);
  }

  -- one that it has nothing to do with
  pub sorts-same : (d : ℕ) (s t : Seen) → d < 64 → Sorts d s → Quiet (place d) → t ≡ s → Sorts (d + 1) t
  sorts-same d s t h l e same = subst (Sorts (d + 1)) (sym same) (record {
    le = omega arith;
    clear = unmet-more on d e.0 l.clear;
    many = sym (add-zero s.many) ∙ sum_more (λ k. count (about k)) d s.many 0 l.many (ap count (sym e.1));
    few = omega (arith, l.few);
    noted = lowest-without about d s.lowest e.1 l.noted;
  })

  -- numbers that it has nothing to do with, up to n
  pub sorts-rest : (n d : ℕ) (s : Seen) → n ≤ 64 → d ≤ n → Sorts d s → ((e : ℕ) → d ≤ e → e < n → Quiet (place e)) → Sorts n s
  sorts-rest n d s few low l none = go (n - d) d l (omega arith) none
    where
      go : (k d : ℕ) → Sorts d s → d + k ≡ n → ((e : ℕ) → d ≤ e → e < n → Quiet (place e)) → Sorts n s
      go zero d l e none = subst (λ (m : ℕ). Sorts m s) (let same : d ≡ n = omega arith in same) l
      go (suc k) d l e none = go k (d + 1) (sorts-same d s s (omega arith) l (none d (omega arith) (omega arith)) refl) (omega arith) (λ m h. none m (omega arith))

  -- a border, after numbers that have none, is the lowest
  pub sorts-border : (d : ℕ) (s : Seen) (t : Touch) → d < 64 → Sorts d s → place d ≡ at_ring t → border d t ≡ sorted_by place
  sorts-border d s t h l e =
      let first = lowest-first on 64 d l.clear h (ap rests e) in
      let m = sum_to 64 (λ k. count (about k)) in
      let low = lowest about 64 0 in
      sym (ap (λ b. sorted b (rests_at (place b)) m low) first ∙ pick_true (lt-ltb d 64 h) _ _ ∙ ap (λ p. border d (rests_at p)) e)

  pub sorts-all : (s : Seen) → Sorts 64 s → by_count s.many (lowest_of s) ≡ sorted_by place
  sorts-all s l =
      let clear : lowest on 64 0 ≡ 64 = lowest-none on 64 0 (λ j g k. l.clear j (omega arith)) ∙ zero-add 64 in
      let low : lowest about 64 0 ≡ lowest_of s = lowest-all about s.lowest l.noted in
      sym (λ i. sorted (clear i) (rests_at (place (clear i))) (sym l.many i) (low i))
