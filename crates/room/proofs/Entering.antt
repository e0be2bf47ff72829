-- A ring is written from the first free place of the store on, and an unused number takes it: the register stays well-formed, and
-- only that number's ring is new. Assumes nothing.
use Prim.Native.Nat.{ℕ, ◌+◌, ◌≤◌, ◌<◌}
use native.Mathlib.Decide.{ℕ_discrete}
use native.Mathlib.Nat.{zero-add}
use native.Mathlib.Omega.{arith}
use mathlib.Core.Path.{◌≡◌, sym, ap, ◌∙◌}
use mathlib.Core.Bool.{true, false}
use mathlib.Core.List.{List, ◌++◌}
use mathlib.Core.Logic.{inl, inr}
use lib.ListN.{length, get_or, take, drop, set, length-set, length-append, length-drop}
use lib.Seq.{length-take-le, take_at, drop_at, get_or-set_same, get_or-set_other}
use Rattle.ring.specs.declared.Point.{Point}
use Rattle.ring.specs.Grid.{some_beyond}
use Rattle.districts.specs.Register.{ring}
use Rattle.districts.specs.Lists.{outline_size, first_place, size, part, held, district, meaning}
use Rattle.districts.specs.WellFormed.{sized, total}
use Rattle.districts.proofs.Meaning.{part-within, ring-when}
use Rattle.room.specs.Writing.{numbers_of, behind, entered, Added}
use Rattle.room.proofs.Forms.{Clear, Sound, size-allowed}
use Rattle.room.proofs.Parts.{part-add, both-on-grid, held_same, sum-but-one, meaning-but-one}

-- the runs after a number took m vertices from a place on
module _ (runs : List ℕ) (e place m : ℕ) (long : length runs ≡ 129) (below : e < 64) where
  after : List ℕ
  after = entered runs e place m

  -- what is read where nothing was written
  untouched : (k : ℕ) → (k ≡ 1 + e → ⊥) → (k ≡ 65 + e → ⊥) → get_or after k 0 ≡ get_or runs k 0
  unfolding after
  untouched k a b = get_or-set_other (set runs (1 + e) place) (65 + e) k m 0 b ∙ get_or-set_other runs (1 + e) k place 0 a

  pub entered-outline : outline_size (entered runs e place m) ≡ outline_size runs
  unfolding after
  entered-outline = untouched 0 (λ (f : 0 ≡ 1 + e). omega arith) (λ (f : 0 ≡ 65 + e). omega arith)

  pub entered-size : size (entered runs e place m) e ≡ m
  entered-size = get_or-set_same (set runs (1 + e) place) (65 + e) m 0 (simp length-set (omega (arith, long)))

  pub entered-place : first_place (entered runs e place m) e ≡ place
  entered-place =
      get_or-set_other (set runs (1 + e) place) (65 + e) (1 + e) m 0 (λ (f : 1 + e ≡ 65 + e). omega arith)
      ∙ get_or-set_same runs (1 + e) place 0 (omega (arith, long))

  pub entered-other-size : (d : ℕ) → (d ≡ e → ⊥) → size (entered runs e place m) d ≡ size runs d
  unfolding after
  entered-other-size d other = untouched (65 + d) (λ (f : 65 + d ≡ 1 + e). omega arith) (λ (f : 65 + d ≡ 65 + e). other (omega arith))

  pub entered-other-place : (d : ℕ) → d < 64 → (d ≡ e → ⊥) → first_place (entered runs e place m) d ≡ first_place runs d
  unfolding after
  entered-other-place d h other = untouched (1 + d) (λ (f : 1 + d ≡ 1 + e). other (omega arith)) (λ (f : 1 + d ≡ 65 + e). omega arith)

  pub entered-total : size runs e ≡ 0 → total (entered runs e place m) ≡ total runs + m
  entered-total free =
      let after = entered runs e place m in
      let but-one : total after + size runs e ≡ total runs + size after e = sum-but-one (size after) (size runs) 64 e below (λ d h. entered-other-size d) in
      omega (arith, entered-size)

pub added-total : (store : List Point) (runs : List ℕ) (e : ℕ) (P : List Point) (store' : List Point) (runs' : List ℕ) → length runs ≡ 129 → e < 64 → size runs e ≡ 0 → Added store runs e P store' runs' → total runs' ≡ total runs + length P
added-total store runs e P store' runs' long below free a = ap total a.1 ∙ entered-total runs e (total runs) (length P) long below free

module _ (outline store : List Point) (runs : List ℕ) (e m : ℕ) (P : List Point)
    (s : Sound outline store runs) (some : 0 < outline_size runs) (below : e < 64) (free : size runs e ≡ 0)
    (many : length P ≡ m) (least : 3 ≤ m) (room : total runs + m ≤ 2048) (grid : some_beyond (numbers_of P) ≡ false) where
  -- the runs and the store afterwards
  runs' : List ℕ
  runs' = entered runs e (total runs) m

  store' : List Point
  store' = behind store (total runs) P

  outline-same : outline_size runs' ≡ outline_size runs
  unfolding runs'
  outline-same = entered-outline runs e (total runs) m s.runs-length below

  size-own : size runs' e ≡ m
  unfolding runs'
  size-own = entered-size runs e (total runs) m s.runs-length below

  place-own : first_place runs' e ≡ total runs
  unfolding runs'
  place-own = entered-place runs e (total runs) m s.runs-length below

  size-other : (d : ℕ) → (d ≡ e → ⊥) → size runs' d ≡ size runs d
  unfolding runs'
  size-other = entered-other-size runs e (total runs) m s.runs-length below

  place_other : (d : ℕ) → d < 64 → (d ≡ e → ⊥) → first_place runs' d ≡ first_place runs d
  unfolding runs'
  place_other = entered-other-place runs e (total runs) m s.runs-length below

  total_of : total runs' ≡ total runs + m
  unfolding runs'
  total_of = entered-total runs e (total runs) m s.runs-length below free

  -- ---- the store

  head-length : length (take (total runs) store) ≡ total runs
  head-length = length-take-le (total runs) store (omega (arith, s.store_length))

  lower : part store' 0 (total runs) ≡ part store 0 (total runs)
  unfolding store'
  lower = take_at (take (total runs) store) _ (total runs) head-length

  own : part store' (total runs) m ≡ P
  unfolding store'
  own =
      ap (take m) (drop_at (take (total runs) store) _ (total runs) head-length)
      ∙ take_at P (drop (total runs + length P) store) m many

  store_long : length store' ≡ 2048
  unfolding store'
  store_long = simp (length-append, length-drop) (omega (arith, head-length, s.store_length))

  -- ---- the facts

  each-size : (d : ℕ) → d < 64 → sized (size runs' d) ≡ true
  each-size d h = elim (ℕ_discrete d e) [
    | yes same ↦ ap (λ k. sized (size runs' k)) same ∙ ap sized size-own ∙ size-allowed m least (omega arith)
    | no other ↦ ap sized (size-other d other) ∙ s.sizes d h
  ]

  within : (d : ℕ) → d < 64 → (d ≡ e → ⊥) → 0 < size runs' d → first_place runs' d + size runs' d ≤ total runs
  within d h other some =
      let fits = s.inside d h (omega (arith, size-other d other)) in
      omega (arith, size-other d other, place_other d h other, fits)

  within_all : (d : ℕ) → d < 64 → 0 < size runs' d → first_place runs' d + size runs' d ≤ total runs'
  within_all d h some = elim (ℕ_discrete d e) [
    | yes same ↦
        let place : first_place runs' d ≡ first_place runs' e = ap (first_place runs') same in
        let count : size runs' d ≡ size runs' e = ap (size runs') same in
        omega (arith, place-own, size-own, total_of)
    | no other ↦ omega (arith, within d h other some, total_of)
  ]

  clear : (d k : ℕ) → d < 64 → k < 64 → (d ≡ k → ⊥) → 0 < size runs' d → 0 < size runs' k → Clear runs' d k
  clear d k h b differ some more = elim (ℕ_discrete d e) [
    | yes same ↦
        let place : first_place runs' d ≡ first_place runs' e = ap (first_place runs') same in
        inr (omega (arith, within k b (λ (f : k ≡ e). differ (omega arith)) more, place-own))
    | no other ↦ elim (ℕ_discrete k e) [
      | yes same ↦
          let place : first_place runs' k ≡ first_place runs' e = ap (first_place runs') same in
          inl (omega (arith, within d h other some, place-own))
      | no another ↦ say other another (s.apart d k h b differ (omega (arith, size-other d other)) (omega (arith, size-other k another)))
    ]
  ]
    where
      say : (d ≡ e → ⊥) → (k ≡ e → ⊥) → Clear runs d k → Clear runs' d k
      say other another (inl f) = inl (omega (arith, size-other d other, place_other d h other, place_other k b another))
      say other another (inr f) = inr (omega (arith, size-other k another, place_other d h other, place_other k b another))

  all-on-grid : some_beyond (numbers_of (part store' 0 (total runs'))) ≡ false
  all-on-grid =
      ap (λ n. some_beyond (numbers_of (part store' 0 n))) total_of
      ∙ ap (λ Q. some_beyond (numbers_of Q)) (part-add store' 0 (total runs) m ∙ (λ i. lower i ++ behind i))
      ∙ both-on-grid (part store 0 (total runs)) P s.store-grid grid
    where
      behind : part store' (0 + total runs) m ≡ P
      behind = ap (λ p. part store' p m) (zero-add (total runs)) ∙ own

  facts : Sound outline store' runs'
  unfolding runs'
  facts = record {
    outline-length = s.outline-length;
    store_length = store_long;
    runs-length = simp length-set s.runs-length;
    outline-size = ap sized outline-same ∙ s.outline-size;
    sizes = each-size;
    most = omega (arith, total_of);
    beside = λ (f : outline_size runs' ≡ 0). absurd (omega (arith, outline-same));
    inside = within_all;
    apart = clear;
    outline-grid = ap (λ n. some_beyond (numbers_of (part outline 0 n))) outline-same ∙ s.outline-grid;
    store-grid = all-on-grid;
  }

  -- ---- together

  sense : meaning outline store' runs' ≡ record { outline = (meaning outline store runs).outline; districts = set (meaning outline store runs).districts e (ring P) }
  sense = meaning-but-one outline store store' runs runs' e (ring P) outline-same (λ h. new) kept
    where
      new : district store' runs' e ≡ ring P
      new =
          (λ i. held store' (place-own i) (size-own i))
          ∙ ring-when store' (total runs) m (λ (f : m ≡ 0). omega arith)
          ∙ ap ring own

      kept : (d : ℕ) → d < 64 → (d ≡ e → ⊥) → district store' runs' d ≡ district store runs d
      kept d h other = ap (λ p. held store' p (size runs' d)) (place_other d h other)
          ∙ held_same store' store (first_place runs d) (first_place runs d) (size runs' d) (size runs d) (size-other d other)
          (λ used. sym (part-within store' (first_place runs d) (size runs d) (total runs) (s.inside d h used))
          ∙ ap (λ l. part l (first_place runs d) (size runs d)) lower
          ∙ part-within store (first_place runs d) (size runs d) (total runs) (s.inside d h used))

  pub entered-sound : Sound outline (behind store (total runs) P) (entered runs e (total runs) m)
  unfolding runs' store'
  entered-sound = facts

  pub entered-meaning : meaning outline (behind store (total runs) P) (entered runs e (total runs) m)
      ≡ record { outline = (meaning outline store runs).outline; districts = set (meaning outline store runs).districts e (ring P) }
  unfolding runs' store'
  entered-meaning = sense
