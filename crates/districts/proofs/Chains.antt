-- The runs are packed exactly if one starts at place 0 and each ends where one starts or at the end of all: from run to run one comes to the end then. Assumes nothing.
use Prim.Native.Nat.{ℕ, zero, suc, ◌+◌, ◌-◌, ◌≤◌, ◌<◌}
use native.Mathlib.Decide.{dec_lt, ℕ_discrete}
use native.Mathlib.Omega.{arith}
use mathlib.Core.Path.{◌≡◌, refl, sym, ap, ◌∙◌}
use mathlib.Core.Bool.{Bool, true, false, ◌&&◌, true≢false}
use mathlib.Core.List.{List}
use mathlib.Core.Logic.{◌⊎◌, inl, inr}
use lib.Dec.{eqb}
use lib.ListN.{get_or}
use borrow.Author.Tests.{lt-ltb, le-ltb, ltb-true, eq-eqb, eqb-true}
use Rattle.ring.proofs.Pick.{pick_true, pick-false}
use Rattle.districts.specs.Counts.{all_to, sum_to}
use Rattle.districts.specs.Lists.{first_place, size}
use Rattle.districts.specs.Places.{Starts, Marked, met, joined}
use Rattle.districts.specs.WellFormed.{total, packed}
use Rattle.districts.proofs.Tests.{refuted, both_left, both_right, either, passes-left, passes-right}
use Rattle.districts.proofs.Counting.{all_pass, all-each}
use Rattle.districts.proofs.Sums.{sum-zero, sum-most, same-terms, some-term, put, put_same, put_other, sum-put}
use Rattle.districts.proofs.Tiles.{Tiles, covered, covered-from, covered-to, covered-once, packed-tiles, tiles-packed}

-- the places that the walk comes to; f says the first places and n the sizes
pub data Chain (f n : ℕ → ℕ) : ℕ → Type 0 where
  origin : Chain f n 0
  hop : {place d next : ℕ} → Chain f n place → Starts f n 64 place d → next ≡ place + n d → Chain f n next

-- ---- what the walk has hopped over

-- the sizes of the numbers hopped over, 0 for the others: they add up to the place, and their runs end at it or before, with no overlap
record Taken (f n : ℕ → ℕ) (place : ℕ) : Type 0 where
  taken : ℕ → ℕ
  sum : sum_to 64 taken ≡ place
  whole : (d : ℕ) → 0 < taken d → taken d ≡ n d
  ends : (d : ℕ) → 0 < taken d → f d + n d ≤ place
  disjoint : (d e : ℕ) → (d ≡ e → ⊥) → 0 < taken d → 0 < taken e → (f d + n d ≤ f e) ⊎ (f e + n e ≤ f d)

module _ (f n : ℕ → ℕ) where
  none-taken : Taken f n 0
  none-taken = record {
    taken = λ d. 0;
    sum = sum-zero (λ d. 0) 64 (λ d h. refl);
    whole = λ d u. absurd (let l : ⊥ = omega arith in l);
    ends = λ d u. absurd (let l : ⊥ = omega arith in l);
    disjoint = λ d e s u v. absurd (let l : ⊥ = omega arith in l);
  }

  module _ (place new next : ℕ) (before : Taken f n place) (s : Starts f n 64 place new) (to : next ≡ place + n new) where
    abbrev after : ℕ → ℕ
    after = put before.taken new (n new)

    not-before : before.taken new ≡ 0
    not-before = elim (dec_lt 0 (before.taken new)) [
      | yes u ↦ absurd (let end = before.ends new u in let at = s.there in let used = s.used in omega arith)
      | no u ↦ omega arith
    ]

    old : (d : ℕ) → (d ≡ new → ⊥) → 0 < after d → 0 < before.taken d
    old d other u = let e : after d ≡ before.taken d = put_other before.taken new (n new) d other in omega arith

    after-ends : (d : ℕ) → 0 < after d → f d + n d ≤ next
    after-ends d u = elim (ℕ_discrete d new) [
      | yes same ↦ let first = ap f same in let long = ap n same in let at = s.there in omega arith
      | no other ↦ let end = before.ends d (old d other u) in omega arith
    ]

    after-disjoint : (d e : ℕ) → (d ≡ e → ⊥) → 0 < after d → 0 < after e → (f d + n d ≤ f e) ⊎ (f e + n e ≤ f d)
    after-disjoint d e apart u v = elim (ℕ_discrete d new) [
      | yes d-new ↦ elim (ℕ_discrete e new) [
        | yes e-new ↦ absurd (apart (d-new ∙ sym e-new))
        | no e-old ↦ inr (let end = before.ends e (old e e-old v) in let first = ap f d-new in let at = s.there in omega arith)
      ]
      | no d-old ↦ elim (ℕ_discrete e new) [
        | yes e-new ↦ inl (let end = before.ends d (old d d-old u) in let first = ap f e-new in let at = s.there in omega arith)
        | no e-old ↦ before.disjoint d e apart (old d d-old u) (old e e-old v)
      ]
    ]

    one_more : Taken f n next
    one_more = record {
      taken = after;
      sum =
          let add = sum-put before.taken new (n new) 64 s.below in
          let sum = before.sum in
          let first = not-before in
          omega arith;
      whole = λ d u. elim (ℕ_discrete d new) [
        | yes same ↦ put_same before.taken new (n new) d same ∙ sym (ap n same)
        | no other ↦ put_other before.taken new (n new) d other ∙ before.whole d (old d other u)
      ];
      ends = after-ends;
      disjoint = after-disjoint;
    }

  taken-by : (place : ℕ) → Chain f n place → Taken f n place
  taken-by place origin = none-taken
  taken-by place (hop {place = before} {d = d} c s to) = one_more before d place (taken-by before c) s to

  module _ (t : ℕ) (same : sum_to 64 n ≡ t) (place : ℕ) (c : Chain f n place) where
    abbrev whole : Taken f n place
    whole = taken-by place c

    most : (d : ℕ) → d < 64 → whole.taken d ≤ n d
    most d h = elim (dec_lt 0 (whole.taken d)) [ yes u ↦ let e = whole.whole d u in omega arith | no u ↦ omega arith ]

    -- no run is hopped over twice, so the walk does not go beyond the sum of all sizes
    pub chain-within : place ≤ t
    chain-within = let sum = whole.sum in let more = sum-most whole.taken n 64 most in omega arith

    -- a walk that has come to it has hopped over all
    pub chain-tiles : t ≤ place → Tiles f n t
    chain-tiles end = record {
      within = λ d h u. let e = whole.ends d (used d h u) in let w = chain-within in omega arith;
      disjoint = λ d e h k apart u v. whole.disjoint d e apart (used d h u) (used e k v);
    }
      where
        used : (d : ℕ) → d < 64 → 0 < n d → 0 < whole.taken d
        used d h u = let w = chain-within in let all : sum_to 64 whole.taken ≡ sum_to 64 n = (let s = whole.sum in omega arith) in let e = same-terms whole.taken n 64 most all d h in omega arith

  -- ---- where the runs are packed

  module _ (t : ℕ) (same : sum_to 64 n ≡ t) (tiles : Tiles f n t) where
    -- at a place that is in the midst of no run one starts
    begins : (place : ℕ) → place < t → ((d : ℕ) → d < 64 → f d < place → place < f d + n d → ⊥) → (d : ℕ) × Starts f n 64 place d
    begins place h midst =
        let once = covered-once f n t same tiles place h in
        let found = some-term (covered f n place) 64 (omega arith) in
        let d = found.0 in
        let from = covered-from f n place d found.2 in
        let to = covered-to f n place d found.2 in
        let there : f d ≡ place = elim (dec_lt (f d) place) [ yes l ↦ absurd (midst d found.1 l to) | no l ↦ omega arith ] in
        (d, record { below = found.1; used = omega arith; there = there })

    first-begins : 0 < t → (d : ℕ) × Starts f n 64 0 d
    first-begins h = begins 0 h (λ d l from to. let g : ⊥ = omega arith in g)

    -- a run that covered the place behind another would overlap it
    next-begins : (d : ℕ) → d < 64 → 0 < n d → f d + n d < t → (e : ℕ) × Starts f n 64 (f d + n d) e
    next-begins d h u l = begins (f d + n d) l never
      where
        never : (e : ℕ) → e < 64 → f e < f d + n d → f d + n d < f e + n e → ⊥
        never e k from to = elim (ℕ_discrete d e) [
          | yes same ↦ let first = ap f same in let long = ap n same in omega arith
          | no other ↦ elim (tiles.disjoint d e h k other u (omega arith)) [ inl m ↦ omega arith | inr m ↦ omega arith ]
        ]

-- ---- by the table

module _ (runs starts : List ℕ) (few : total runs ≤ 2048) (marked : Marked runs 64 starts) where
  abbrev meets : ℕ → Bool
  meets place = met starts (total runs) place

  -- a place where a run starts or all end
  meets-start : (place d : ℕ) → place < total runs → Starts (first_place runs) (size runs) 64 place d → meets place ≡ true
  meets-start place d h s = pick_true (lt-ltb place (total runs) h) _ _ ∙ lt-ltb 0 (get_or starts place 0) (marked.none-missed place d (omega arith) s)

  meets-end : (place : ℕ) → place ≡ total runs → meets place ≡ true
  meets-end place e = pick-false (le-ltb place (total runs) (omega arith)) _ _ ∙ eq-eqb place (total runs) e

  packed-met : packed runs ≡ true → (meets 0 && all_to 64 (joined runs starts (total runs))) ≡ true
  packed-met p = λ i. first i && all_pass (joined runs starts (total runs)) 64 each i
    where
      tiles : Tiles (first_place runs) (size runs) (total runs)
      tiles = packed-tiles runs p

      first : meets 0 ≡ true
      first = elim (dec_lt 0 (total runs)) [
        | yes some ↦ let (d, s) = first-begins (first_place runs) (size runs) (total runs) refl tiles some in meets-start 0 d some s
        | no none ↦ meets-end 0 (omega arith)
      ]

      ends : (d : ℕ) → d < 64 → 0 < size runs d → meets (first_place runs d + size runs d) ≡ true
      ends d h u = elim (dec_lt (first_place runs d + size runs d) (total runs)) [
        | yes less ↦ let (e, s) = next-begins (first_place runs) (size runs) (total runs) refl tiles d h u less in meets-start (first_place runs d + size runs d) e less s
        | no more ↦ meets-end (first_place runs d + size runs d) (let w = tiles.within d h u in omega arith)
      ]

      each : (d : ℕ) → d < 64 → joined runs starts (total runs) d ≡ true
      each d h = elim (dec_lt 0 (size runs d)) [
        | yes u ↦ passes-right (eqb (size runs d) 0) (ends d h u)
        | no u ↦ passes-left (eq-eqb (size runs d) 0 (omega arith)) _
      ]

  module _ (each : (d : ℕ) → d < 64 → joined runs starts (total runs) d ≡ true) where
    -- a place that one comes to, where a run starts or all end
    record Stands (place : ℕ) : Type 0 where
      come : Chain (first_place runs) (size runs) place
      here : meets place ≡ true

    -- over the run that starts there
    next : (place : ℕ) → place < total runs → Stands place → (to : ℕ) × (place < to) × Stands to
    next place less at =
        let some : 0 < get_or starts place 0 = ltb-true 0 (get_or starts place 0) (sym (pick_true (lt-ltb place (total runs) less) _ _) ∙ at.here) in
        let d = get_or starts place 0 - 1 in
        let s : Starts (first_place runs) (size runs) 64 place d = marked.right place d (omega arith) in
        let used = s.used in
        let ended : meets (first_place runs d + size runs d) ≡ true = elim (either (eqb (size runs d) 0) (meets (first_place runs d + size runs d)) (each d s.below)) [
          | inl z ↦ absurd (let none = eqb-true (size runs d) 0 z in let g : ⊥ = omega arith in g)
          | inr e ↦ e
        ] in
        (place + size runs d, omega arith, record { come = hop at.come s refl; here = sym (ap (λ p. meets (p + size runs d)) s.there) ∙ ended })

    -- to the end; k is more than what is left
    walked : (k place : ℕ) → Stands place → total runs < place + k → packed runs ≡ true
    walked zero place at h = let w = chain-within (first_place runs) (size runs) (total runs) refl place at.come in absurd (let g : ⊥ = omega arith in g)
    walked (suc k) place at h = elim (dec_lt place (total runs)) [
      | no end ↦ tiles-packed runs (chain-tiles (first_place runs) (size runs) (total runs) refl place at.come (omega arith))
      | yes less ↦ let (to, far, there) = next place less at in walked k to there (omega arith)
    ]

  met-packed : (meets 0 && all_to 64 (joined runs starts (total runs))) ≡ packed runs
  met-packed = go (meets 0 && all_to 64 (joined runs starts (total runs))) refl
    where
      go : (b : Bool) → (meets 0 && all_to 64 (joined runs starts (total runs))) ≡ b → b ≡ packed runs
      go true e = sym (walked (all-each _ 64 (both_right (meets 0) _ e)) (suc (total runs)) 0 (record { come = origin; here = both_left (meets 0) _ e }) (omega arith))
      go false e = sym (refuted (packed runs) (λ p. true≢false (sym (packed-met p) ∙ e)))

  -- the two tests, of a number that is what all have together
  pub both-packed : (all : ℕ) (first each : Bool) → all ≡ total runs → first ≡ met starts all 0 → each ≡ all_to 64 (joined runs starts all) → (first && each) ≡ packed runs
  both-packed all first each is e f = (λ i. e i && f i) ∙ ap (λ t. met starts t 0 && all_to 64 (joined runs starts t)) is ∙ met-packed
