-- What a class Border says: its district is the lowest on whose ring the point is, and it lies on that district's ring as told. Assumes nothing.
use Prim.Native.Nat.{ℕ, ◌<◌}
use native.Mathlib.Omega.{arith}
use mathlib.Core.Path.{◌≡◌, refl, sym, subst₂}
use mathlib.Core.Bool.{Bool, true, false, true≢false}
use lib.Dec.{ltb, eqb}
use borrow.Author.Tests.{ltb-true}
use Rattle.ring.specs.declared.Point.{Point}
use Rattle.ring.specs.Choices.{pick, count}
use Rattle.ring.specs.Locate.{Touch, Place, on, off, refused, lowest}
use Rattle.ring.proofs.Search.{lowest-is}
use Rattle.districts.specs.Counts.{sum_to}
use Rattle.districts.specs.Register.{Register, numbers, slot}
use Rattle.districts.specs.Answers.{border, one, none, several}
use Rattle.register.specs.Sorting.{rests, winds, rests_at, lies_to, by_count, sorted_by, belongs_to}

pub record Bordering (place : ℕ → Place) (d : ℕ) (t : Touch) : Type 0 where
  pub number : d < numbers
  pub touches : place d ≡ on t
  pub first : (k : ℕ) → k < d → rests (place k) ≡ false

touched : (p : Place) → rests p ≡ true → p ≡ on (rests_at p)
touched (on t) e = refl
touched (off w o) e = absurd (true≢false (sym e))
touched (refused n) e = absurd (true≢false (sym e))

-- a class by count is no Border
no-border : (m l d : ℕ) (t : Touch) → by_count m l ≡ border d t → ⊥
no-border m l d t = go (eqb m 0) (eqb m 1)
  where
    go : (a b : Bool) → pick a none (pick b (one l) (several l m)) ≡ border d t → ⊥
    go true b h = let clash : ◌≡◌ {A = ℕ} 0 1 = cc in omega arith
    go false true h = let clash : ◌≡◌ {A = ℕ} 0 1 = cc in omega arith
    go false false h = let clash : ◌≡◌ {A = ℕ} 0 1 = cc in omega arith

bordering : (place : ℕ → Place) (d : ℕ) (t : Touch) → sorted_by place ≡ border d t → Bordering place d t
bordering place d t e = go (ltb b numbers) refl e
  where
    b : ℕ
    b = lowest (λ k. rests (place k)) numbers 0

    go : (a : Bool) → ltb b numbers ≡ a → pick a (border b (rests_at (place b))) (by_count (sum_to numbers (λ k. count (winds (place k)))) (lowest (λ k. winds (place k)) numbers 0)) ≡ border d t → Bordering place d t
    go true s h =
        let below = ltb-true b numbers s in
        let its = lowest-is (λ k. rests (place k)) numbers 0 b refl (omega (arith, below)) in
        let district : b ≡ d = cc in
        let its-touch : rests_at (place b) ≡ t = cc in
        subst₂ (Bordering place) district its-touch (record { number = below; touches = touched (place b) its.0; first = λ k l. its.1 k (omega arith) l })
    go false s h = absurd (no-border (sum_to numbers (λ k. count (winds (place k)))) (lowest (λ k. winds (place k)) numbers 0) d t h)

pub border-places : (g : Register) (R : Point) (d : ℕ) (t : Touch) → belongs_to g R ≡ border d t → Bordering (λ k. lies_to R (slot g k)) d t
unfolding belongs_to
border-places g R d t e = bordering (λ k. lies_to R (slot g k)) d t e
