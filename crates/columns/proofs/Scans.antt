-- One pass over a column of y: weights tell which edge alone rises through a row, and which alone falls. Assumes nothing.
use Prim.Native.Nat.{ℕ, zero, suc, ◌+◌, ◌-◌, ◌*◌, ◌≤◌, ◌<◌}
use native.Mathlib.Decide.{dec_lt}
use native.Mathlib.Numerals.{add-one}
use native.Mathlib.Omega.{arith}
use mathlib.Core.Path.{◌≡◌, refl, sym, ap, ◌∙◌}
use mathlib.Core.Bool.{Bool, true, false, not, ◌&&◌, ◌||◌, true≢false}
use mathlib.Core.List.{List}
use lib.ListN.{length, get_or}
use lib.IntN.{ℤ, pos}
use lib.Signed.{lt_z}
use Rattle.ring.specs.Choices.{pick}
use Rattle.ring.proofs.Walks.{Tells, tells_none, tells_more}
use Rattle.columns.specs.Rows.{preceding, low_at, apart_at, rises_to, falls_to, weights, Scanned, One}

-- a test of two that passes
pub both : (a b : Bool) → (a && b) ≡ true → (a ≡ true) × (b ≡ true)
both true b e = (refl, e)
both false b e = (e, absurd (true≢false (sym e)))

-- ---- weights

pick-most : (b : Bool) (m : ℕ) → pick b m 0 ≤ m
pick-most true m = omega arith
pick-most false m = omega arith

-- they fit 32 bits
weights-few : (p : ℕ → Bool) (k : ℕ) → k ≤ 2048 → weights p k ≤ k * 67584
unfolding weights
weights-few p zero h = omega arith
weights-few p (suc k) h = let rest = weights-few p k (omega arith) in omega (arith, rest, pick-most (p k) (65536 + k))

-- a test fails below k, and at k
none_more : (p : ℕ → Bool) (k : ℕ) → ((j : ℕ) → j < k → p j ≡ false) → p k ≡ false → (j : ℕ) → j < suc k → p j ≡ false
none_more p k all e j h = elim (dec_lt j k) [ yes low ↦ all j low | no high ↦ ap p (let s : j ≡ k = omega arith in s) ∙ e ]

weights-none : (p : ℕ → Bool) (k : ℕ) → weights p k < 65536 → (weights p k ≡ 0) × ((j : ℕ) → j < k → p j ≡ false)
unfolding weights
weights-none p zero h = (refl, λ j l. absurd (let f : ⊥ = omega arith in f))
weights-none p (suc k) h = last (p k) refl h (weights-none p k)
  where
    last : (b : Bool) → p k ≡ b → weights p k + pick b (65536 + k) 0 < 65536 → (weights p k < 65536 → (weights p k ≡ 0) × ((j : ℕ) → j < k → p j ≡ false)) → (weights p k + pick b (65536 + k) 0 ≡ 0) × ((j : ℕ) → j < suc k → p j ≡ false)
    last true e h before = absurd (let f : ⊥ = omega arith in f)
    last false e h before = let (nought, all) = before (omega arith) in (omega (arith, nought), none_more p k all e)

-- s alone, of the indices below k, passes the test
pub record Only (p : ℕ → Bool) (k s : ℕ) : Type 0 where
  pub within : s < k
  pub hit : p s ≡ true
  pub others : (j : ℕ) → j < k → (j ≡ s → ⊥) → p j ≡ false

weights-one : (p : ℕ → Bool) (k s : ℕ) → weights p k ≡ 65536 + s → s < 65536 → Only p k s
unfolding weights
weights-one p zero s e h = absurd (let f : ⊥ = omega arith in f)
weights-one p (suc k) s e h = last (p k) refl e (λ d. weights-one p k s d h)
  where
    last : (b : Bool) → p k ≡ b → weights p k + pick b (65536 + k) 0 ≡ 65536 + s → (weights p k ≡ 65536 + s → Only p k s) → Only p (suc k) s
    last true t d before =
        let (nought, all) = weights-none p k (omega (arith, d, h)) in
        let here : s ≡ k = omega (arith, d, nought) in
        record { within = omega (arith, here); hit = ap p here ∙ t; others = λ j l apart. all j (elim (dec_lt j k) [ yes low ↦ low | no high ↦ absurd (apart (omega (arith, here, high, l))) ]) }
    last false t d before =
        let one = before (omega (arith, d)) in
        record {
          within = omega (arith, one.within);
          hit = one.hit;
          others = λ j l apart. elim (dec_lt j k) [ yes low ↦ one.others j low apart | no high ↦ ap p (let e : j ≡ k = omega arith in e) ∙ t ];
        }

-- the index that alone was weighed
pub only_one : (p : ℕ → Bool) (k w j : ℕ) → w ≡ weights p k → One w → w ≡ 65536 + j → Only p k j
only_one p k w j e one f = weights-one p k j (sym e ∙ f) (omega (arith, one.1, f))

-- ---- one pass over a column

-- what is known after the first j numbers: of the edges to those vertices, of those vertices, and of the last of them
pub record Swept (ys : List ℤ) (v : ℤ) (rises falls : ℕ) (apart low : Bool) (mark j : ℕ) : Type 0 where
  pub within : j ≤ length ys
  pub rising : rises ≡ weights (rises_to ys v) j
  pub falling : falls ≡ weights (falls_to ys v) j
  pub told : Tells apart (apart_at ys v) j
  pub last : low ≡ low_at ys v (preceding (length ys) j)
  pub marked : mark ≡ 65536 + j

pub swept_none : (ys : List ℤ) (v y : ℤ) → y ≡ get_or ys (length ys - 1) (pos 0) → Swept ys v 0 0 true (lt_z y v) 65536 0
unfolding weights
swept_none ys v y e = record { within = omega arith; rising = refl; falling = refl; told = tells_none (apart_at ys v); last = ap (λ (z : ℤ). lt_z z v) e; marked = refl }

module _ (ys : List ℤ) (v : ℤ) (rises falls : ℕ) (apart low : Bool) (mark j : ℕ) (before : Swept ys v rises falls apart low mark j) where
  more : (p : ℕ → Bool) (w a : ℕ) (t : Bool) → w ≡ weights p j → t ≡ p j → a ≡ pick t mark 0 → w + a ≡ weights p (j + 1)
  unfolding weights
  more p w a t e f g = (λ i. e i + (g ∙ (λ k. pick (f k) (before.marked k) 0)) i) ∙ sym (ap (weights p) (add-one j))

  pub swept-more : (y : ℤ) (a b : ℕ) → y ≡ get_or ys j (pos 0) → j < length ys → a ≡ pick (low && not (lt_z y v)) mark 0 → b ≡ pick (not low && lt_z y v) mark 0
      → Swept ys v (rises + a) (falls + b) (apart && (lt_z y v || lt_z v y)) (lt_z y v) (mark + 1) (j + 1)
  swept-more y a b e h f g = record {
    within = omega (arith, h);
    rising = more (rises_to ys v) rises a _ before.rising (λ i. before.last i && not (lt_z (e i) v)) f;
    falling = more (falls_to ys v) falls b _ before.falling (λ i. not (before.last i) && lt_z (e i) v) g;
    told = tells_more apart _ (apart_at ys v) j (λ i. lt_z (e i) v || lt_z v (e i)) before.told;
    last = ap (λ (z : ℤ). lt_z z v) e ∙ sym (ap (λ (k : ℕ). low_at ys v (preceding (length ys) k)) (add-one j));
    marked = omega (arith, before.marked);
  }

  pub swept-few : length ys ≤ 2048 → (rises ≤ 138_412_032) × (falls ≤ 138_412_032)
  swept-few h = (
    omega (arith, before.rising, before.within, weights-few (rises_to ys v) j (omega (arith, before.within, h))),
    omega (arith, before.falling, before.within, weights-few (falls_to ys v) j (omega (arith, before.within, h))),
  )

  pub swept_all : length ys ≤ j → Scanned ys v (record { rises = rises; falls = falls; apart = apart })
  swept_all h =
      let all : j ≡ length ys = omega (arith, h, before.within) in
      record { rises = before.rising ∙ ap (weights (rises_to ys v)) all; falls = before.falling ∙ ap (weights (falls_to ys v)) all; apart = λ e i l. before.told e i (omega (arith, l, all)) }
