-- Runs that are packed cover each place below their total exactly once: the places below p that runs cover are counted, and each place
-- more counts one at most. Assumes nothing.
use Prim.Native.Nat.{ℕ, zero, suc, ◌+◌, ◌-◌, ◌≤◌, ◌<◌}
use native.Mathlib.Decide.{dec_lt}
use native.Mathlib.Omega.{arith}
use mathlib.Core.Path.{◌≡◌, refl, ap, ◌∙◌}
use mathlib.Core.Bool.{Bool, true, false, ◌&&◌, ◌||◌}
use mathlib.Core.List.{List}
use mathlib.Core.Logic.{◌⊎◌, inl, inr}
use lib.Dec.{eqb, leb, ltb}
use borrow.Author.Tests.{eqb-true, leb-true, le-leb, lt-leb, lt-ltb, le-ltb, eq-eqb}
use Rattle.ring.specs.Choices.{count}
use Rattle.districts.specs.Counts.{all_to, sum_to}
use Rattle.districts.specs.Lists.{first_place, size}
use Rattle.districts.specs.Places.{covers}
use Rattle.districts.specs.WellFormed.{total, inside, apart, packed}
use Rattle.districts.proofs.Tests.{both_left, both_right, either, passes-left, passes-right}
use Rattle.districts.proofs.Counting.{all-each, all_pass}
use Rattle.districts.proofs.Sums.{sum_same, sum-zero, sum-plus, one_at_most}

-- used numbers' runs end at t or before, and no two overlap; f says the first places and n the sizes
pub record Tiles (f n : ℕ → ℕ) (t : ℕ) : Type 0 where
  pub within : (d : ℕ) → d < 64 → 0 < n d → f d + n d ≤ t
  pub disjoint : (d e : ℕ) → d < 64 → e < 64 → (d ≡ e → ⊥) → 0 < n d → 0 < n e → (f d + n d ≤ f e) ⊎ (f e + n e ≤ f d)

-- ---- the places that runs cover

module _ (f n : ℕ → ℕ) where
  -- 1 where the place is one of d's, else 0
  abbrev pub covered : ℕ → ℕ → ℕ
  covered p d = count (leb (f d) p && ltb p (f d + n d))

  -- how many places of d's are below p
  abbrev reached : ℕ → ℕ → ℕ
  reached p d = n d - (f d + n d - p)

  abbrev below : ℕ → ℕ
  below p = sum_to 64 (reached p)

  covered-before : (p d : ℕ) → p < f d → covered p d ≡ 0
  covered-before p d h = ap (λ b. count (b && ltb p (f d + n d))) (lt-leb (f d) p h)

  covered-at : (p d : ℕ) → f d ≤ p → p < f d + n d → covered p d ≡ 1
  covered-at p d h k = λ i. count (le-leb (f d) p h i && lt-ltb p (f d + n d) k i)

  covered-after : (p d : ℕ) → f d ≤ p → f d + n d ≤ p → covered p d ≡ 0
  covered-after p d h k = λ i. count (le-leb (f d) p h i && le-ltb p (f d + n d) k i)

  -- one place more
  reached-more : (p d : ℕ) → reached (p + 1) d ≡ reached p d + covered p d
  reached-more p d = elim (dec_lt p (f d)) [
    | yes h ↦ let c : covered p d ≡ 0 = covered-before p d h in omega arith
    | no h ↦ elim (dec_lt p (f d + n d)) [
      | yes k ↦ let c : covered p d ≡ 1 = covered-at p d (omega arith) k in omega arith
      | no k ↦ let c : covered p d ≡ 0 = covered-after p d (omega arith) (omega arith) in omega arith
    ]
  ]

  covered-most : (p d : ℕ) → covered p d ≤ 1
  covered-most p d = bit (leb (f d) p && ltb p (f d + n d))
    where
      bit : (b : Bool) → count b ≤ 1
      bit true = omega arith
      bit false = omega arith

  pub covered-from : (p d : ℕ) → 0 < covered p d → f d ≤ p
  covered-from p d u = elim (dec_lt p (f d)) [ yes h ↦ absurd (let c = covered-before p d h in omega arith) | no h ↦ omega arith ]

  pub covered-to : (p d : ℕ) → 0 < covered p d → p < f d + n d
  covered-to p d u = elim (dec_lt p (f d + n d)) [
    | yes h ↦ h
    | no h ↦ let from = covered-from p d u in absurd (let c : covered p d ≡ 0 = covered-after p d from (omega arith) in omega arith)
  ]

  module _ (t : ℕ) (same : sum_to 64 n ≡ t) (tiles : Tiles f n t) where
    covered-most-once : (p : ℕ) → sum_to 64 (covered p) ≤ 1
    covered-most-once p = one_at_most (covered p) 64 (λ d h. covered-most p d) never
      where
        never : (d e : ℕ) → d < e → e < 64 → 0 < covered p d → 0 < covered p e → ⊥
        never d e h k u v =
            let d-from = covered-from p d u in
            let d-to = covered-to p d u in
            let e-from = covered-from p e v in
            let e-to = covered-to p e v in
            elim (tiles.disjoint d e (omega arith) k (λ s. omega arith) (omega arith) (omega arith)) [ inl l ↦ omega arith | inr l ↦ omega arith ]

    below_more : (p : ℕ) → below (p + 1) ≡ below p + sum_to 64 (covered p)
    below_more p = sum-plus (reached p) (covered p) (reached (p + 1)) 64 (λ d h. reached-more p d)

    below-most : (k p : ℕ) → below (p + k) ≤ below p + k
    below-most zero p = let e : below (p + 0) ≡ below p = ap below (let z : p + 0 ≡ p = omega arith in z) in omega arith
    below-most (suc k) p =
        let e : below (p + suc k) ≡ below ((p + k) + 1) = ap below (let z : p + suc k ≡ (p + k) + 1 = omega arith in z) in
        let most = below-most k p in
        let more = below_more (p + k) in
        let once = covered-most-once (p + k) in
        omega arith

    below_none : below 0 ≡ 0
    below_none = sum-zero (reached 0) 64 (λ d h. omega arith)

    below_end : below t ≡ t
    below_end = sum_same (reached t) n 64 whole ∙ same
      where
        whole : (d : ℕ) → d < 64 → reached t d ≡ n d
        whole d h = elim (dec_lt 0 (n d)) [ yes u ↦ let w = tiles.within d h u in omega arith | no u ↦ omega arith ]

    pub covered-once : (p : ℕ) → p < t → sum_to 64 (covered p) ≡ 1
    covered-once p h =
        let start : below (0 + p) ≤ below 0 + p = below-most p 0 in
        let none = below_none in
        let from : below (0 + p) ≡ below p = ap below (let z : 0 + p ≡ p = omega arith in z) in
        let more = below_more p in
        let rest : below ((p + 1) + (t - (p + 1))) ≤ below (p + 1) + (t - (p + 1)) = below-most (t - (p + 1)) (p + 1) in
        let to : below ((p + 1) + (t - (p + 1))) ≡ below t = ap below (let z : (p + 1) + (t - (p + 1)) ≡ t = omega arith in z) in
        let end = below_end in
        let once = covered-most-once p in
        omega arith

-- ---- the runs of a register

module _ (runs : List ℕ) where
  abbrev end : ℕ → ℕ
  end d = first_place runs d + size runs d

  apart-either : (d e : ℕ) → apart runs d e ≡ true → 0 < size runs d → 0 < size runs e → (end d ≤ first_place runs e) ⊎ (end e ≤ first_place runs d)
  apart-either d e p u v = elim (either (eqb (size runs d) 0 || eqb (size runs e) 0) _ p) [
    | inl unused ↦ elim (either (eqb (size runs d) 0) _ unused) [
      | inl z ↦ absurd (let none = eqb-true (size runs d) 0 z in omega arith)
      | inr z ↦ absurd (let none = eqb-true (size runs e) 0 z in omega arith)
    ]
    | inr order ↦ elim (either (leb (end d) (first_place runs e)) _ order) [
      | inl l ↦ inl (leb-true (end d) (first_place runs e) l)
      | inr l ↦ inr (leb-true (end e) (first_place runs d) l)
    ]
  ]

  pub packed-tiles : packed runs ≡ true → Tiles (first_place runs) (size runs) (total runs)
  packed-tiles p = record { within = within; disjoint = disjoint }
    where
      within : (d : ℕ) → d < 64 → 0 < size runs d → end d ≤ total runs
      within d h u = elim (either (eqb (size runs d) 0) _ (all-each (inside runs (total runs)) 64 (both_left (all_to 64 (inside runs (total runs))) _ p) d h)) [
        | inl z ↦ absurd (let none = eqb-true (size runs d) 0 z in omega arith)
        | inr l ↦ leb-true (end d) (total runs) l
      ]

      lower : (d e : ℕ) → d < 64 → e < d → apart runs d e ≡ true
      lower d e h l = all-each (λ e. apart runs d e) d (all-each (λ d. all_to d (λ e. apart runs d e)) 64 (both_right (all_to 64 (inside runs (total runs))) _ p) d h) e l

      disjoint : (d e : ℕ) → d < 64 → e < 64 → (d ≡ e → ⊥) → 0 < size runs d → 0 < size runs e → (end d ≤ first_place runs e) ⊎ (end e ≤ first_place runs d)
      disjoint d e h k other u v = elim (dec_lt e d) [
        | yes l ↦ apart-either d e (lower d e h l) u v
        | no l ↦ elim (apart-either e d (lower e d k (omega arith)) v u) [ inl m ↦ inr m | inr m ↦ inl m ]
      ]

  pub tiles-packed : Tiles (first_place runs) (size runs) (total runs) → packed runs ≡ true
  tiles-packed t = λ i. all_pass (inside runs (total runs)) 64 within i && all_pass (λ d. all_to d (λ e. apart runs d e)) 64 (λ d h. all_pass (λ e. apart runs d e) d (disjoint d h)) i
    where
      within : (d : ℕ) → d < 64 → inside runs (total runs) d ≡ true
      within d h = elim (dec_lt 0 (size runs d)) [
        | yes u ↦ passes-right (eqb (size runs d) 0) (le-leb (end d) (total runs) (t.within d h u))
        | no u ↦ passes-left (eq-eqb (size runs d) 0 (omega arith)) _
      ]

      disjoint : (d : ℕ) → d < 64 → (e : ℕ) → e < d → apart runs d e ≡ true
      disjoint d h e l = elim (dec_lt 0 (size runs d)) [
        | no u ↦ passes-left (passes-left (eq-eqb (size runs d) 0 (omega arith)) _) _
        | yes u ↦ elim (dec_lt 0 (size runs e)) [
          | no v ↦ passes-left (passes-right (eqb (size runs d) 0) (eq-eqb (size runs e) 0 (omega arith))) _
          | yes v ↦ passes-right (eqb (size runs d) 0 || eqb (size runs e) 0) (elim (t.disjoint d e h (omega arith) (λ s. omega arith) u v) [
            | inl m ↦ passes-left (le-leb (end d) (first_place runs e) m) _
            | inr m ↦ passes-right (leb (end d) (first_place runs e)) (le-leb (end e) (first_place runs d) m)
          ])
        ]
      ]

  -- each place below the end is one of exactly one district's
  pub each-place-once : packed runs ≡ true → (place : ℕ) → place < total runs → sum_to 64 (λ d. count (covers runs place d)) ≡ 1
  each-place-once e place h = covered-once (first_place runs) (size runs) (total runs) refl (packed-tiles e) place h
