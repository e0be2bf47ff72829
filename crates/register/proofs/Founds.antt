-- The lists after founding: well-formed, with the outline and district 0 of the ring that was given, and no other district. Assumes nothing.
use Prim.Native.Nat.{ℕ, zero, suc, ◌+◌, ◌≤◌, ◌<◌}
use native.Mathlib.Nat.{zero-add, add-zero}
use native.Mathlib.Omega.{arith}
use mathlib.Core.Path.{◌≡◌, refl, sym, ap, ◌∙◌}
use mathlib.Core.Bool.{true, false}
use mathlib.Core.List.{List}
use lib.Dec.{eqb, eqb-suc-zero}
use lib.ListN.{length, get_or, drop, set, length-set, length-append, length-drop}
use lib.Seq.{take_at, get_or-set_same, get_or-set_other}
use Rattle.ring.specs.declared.Point.{Point}
use Rattle.ring.specs.Grid.{some_beyond}
use Rattle.ring.specs.Choices.{pick}
use Rattle.ring.proofs.Pick.{pick-false}
use Rattle.districts.specs.Counts.{sum_to, list_to}
use Rattle.districts.specs.Register.{unused, ring}
use Rattle.districts.specs.Lists.{outline_size, first_place, size, part, held, district, meaning}
use Rattle.districts.specs.WellFormed.{sized, total}
use Rattle.districts.specs.Lent.{written}
use Rattle.districts.proofs.Counting.{term-most}
use Rattle.districts.proofs.Meaning.{unused-when, ring-when, list_same}
use Rattle.room.specs.Writing.{numbers_of}
use Rattle.room.proofs.Forms.{Sound, size-allowed}
use Rattle.register.specs.Calls.{placed}

-- a list that starts with P has P for its first part
written-part : {A : Type 0} (P before : List A) (n : ℕ) → length P ≡ n → part (written P before) 0 n ≡ P
written-part P before n e = take_at P (drop (length P) before) n e

written-length : {A : Type 0} (P before : List A) → length P ≤ length before → length (written P before) ≡ length before
written-length P before h = length-append P (drop (length P) before) ∙ simp length-drop (omega arith)

-- a sum of which only the first term is not 0
sum_one : (f : ℕ → ℕ) (n : ℕ) → ((k : ℕ) → 0 < k → k < suc n → f k ≡ 0) → sum_to (suc n) f ≡ f 0
unfolding sum_to
sum_one f zero h = zero-add (f 0)
sum_one f (suc n) h = (λ i. sum_one f n (λ k a b. h k a (omega arith)) i + h (suc n) (omega arith) (omega arith) i) ∙ add-zero (f 0)

module _ (outline store : List Point) (runs : List ℕ) (P : List Point) (s : Sound outline store runs) (none : outline_size runs ≡ 0)
    (least : 3 ≤ length P) (most : length P ≤ 2048) (grid : some_beyond (numbers_of P) ≡ false) where
  -- the ring's number of vertices, and the runs after founding
  n : ℕ
  n = length P

  runs' : List ℕ
  runs' = placed runs n

  -- before founding there is no district
  no_size : (d : ℕ) → d < 64 → size runs d ≡ 0
  no_size d h =
      let all : total runs ≡ 0 = s.beside none in
      let most : size runs d ≤ total runs = term-most (size runs) 64 d h in
      omega arith

  -- what is read where nothing was written
  untouched : (k : ℕ) → (k ≡ 0 → ⊥) → (k ≡ 1 → ⊥) → (k ≡ 65 → ⊥) → get_or runs' k 0 ≡ get_or runs k 0
  unfolding runs'
  untouched k a b c =
      get_or-set_other (set (set runs 0 n) 1 0) 65 k n 0 c
      ∙ get_or-set_other (set runs 0 n) 1 k 0 0 b
      ∙ get_or-set_other runs 0 k n 0 a

  size_of : (d : ℕ) → 0 < d → d < 64 → size runs' d ≡ 0
  size_of d h k = untouched (65 + d) (λ (e : 65 + d ≡ 0). omega arith) (λ (e : 65 + d ≡ 1). omega arith) (λ (e : 65 + d ≡ 65). omega arith) ∙ no_size d k

  size-first : size runs' 0 ≡ n
  unfolding runs'
  size-first = get_or-set_same (set (set runs 0 n) 1 0) 65 n 0 (simp length-set (omega (arith, s.runs-length)))

  place-first : first_place runs' 0 ≡ 0
  unfolding runs'
  place-first =
      get_or-set_other (set (set runs 0 n) 1 0) 65 1 n 0 (λ (e : 1 ≡ 65). omega arith)
      ∙ get_or-set_same (set runs 0 n) 1 0 0 (simp length-set (omega (arith, s.runs-length)))

  outline-of : outline_size runs' ≡ n
  unfolding runs'
  outline-of =
      get_or-set_other (set (set runs 0 n) 1 0) 65 0 n 0 (λ (e : 0 ≡ 65). omega arith)
      ∙ get_or-set_other (set runs 0 n) 1 0 0 0 (λ (e : 0 ≡ 1). omega arith)
      ∙ get_or-set_same runs 0 n 0 (omega (arith, s.runs-length))

  total_of : total runs' ≡ n
  total_of = sum_one (size runs') 63 size_of ∙ size-first

  -- ---- the facts

  each-size : (d : ℕ) → d < 64 → sized (size runs' d) ≡ true
  unfolding n
  each-size zero h = ap sized size-first ∙ size-allowed (length P) least most
  each-size (suc d) h = ap sized (size_of (suc d) (omega arith) h)

  -- only number 0 is in use
  first-only : (d : ℕ) → d < 64 → 0 < size runs' d → d ≡ 0
  first-only zero h some = refl
  first-only (suc d) h some = absurd (let e = size_of (suc d) (omega arith) h in let f : ⊥ = omega arith in f)

  inside : (d : ℕ) → d < 64 → 0 < size runs' d → first_place runs' d + size runs' d ≤ total runs'
  inside zero h some = omega (arith, place-first, size-first, total_of)
  inside (suc d) h some = absurd (let e = first-only (suc d) h some in let f : ⊥ = omega arith in f)

  facts : Sound (written P outline) (written P store) runs'
  unfolding n runs'
  facts = record {
    outline-length = written-length P outline (omega (arith, s.outline-length)) ∙ s.outline-length;
    store_length = written-length P store (omega (arith, s.store_length)) ∙ s.store_length;
    runs-length = simp length-set s.runs-length;
    outline-size = ap sized outline-of ∙ size-allowed (length P) least most;
    sizes = each-size;
    most = omega (arith, total_of);
    beside = λ (e : outline_size runs' ≡ 0). absurd (omega (arith, outline-of));
    inside = inside;
    apart = λ d e h k differ some more. absurd (differ (first-only d h some ∙ sym (first-only e k more)));
    outline-grid = ap (λ k. some_beyond (numbers_of (part (written P outline) 0 k))) outline-of ∙ ap (λ Q. some_beyond (numbers_of Q)) (written-part P outline (length P) refl) ∙ grid;
    store-grid = ap (λ k. some_beyond (numbers_of (part (written P store) 0 k))) total_of ∙ ap (λ Q. some_beyond (numbers_of Q)) (written-part P store (length P) refl) ∙ grid;
  }

  -- ---- the meaning

  ring_of : (before : List Point) (f k : ℕ) → f ≡ 0 → k ≡ n → held (written P before) f k ≡ ring P
  unfolding n
  ring_of before f k e h =
      (λ i. held (written P before) (e i) (h i))
      ∙ ring-when (written P before) 0 (length P) (λ (g : length P ≡ 0). omega arith)
      ∙ ap ring (written-part P before (length P) refl)

  each : (d : ℕ) → d < 64 → district (written P store) runs' d ≡ pick (eqb d 0) (ring P) unused
  each zero h = ring_of store (first_place runs' 0) (size runs' 0) place-first size-first
  each (suc d) h =
      unused-when (written P store) (first_place runs' (suc d)) (size runs' (suc d)) (size_of (suc d) (omega arith) h)
      ∙ sym (pick-false (eqb-suc-zero d) (ring P) unused)

  -- ---- together

  pub founded-sound : Sound (written P outline) (written P store) (placed runs (length P))
  unfolding runs' n
  founded-sound = facts

  pub founded-meaning : meaning (written P outline) (written P store) (placed runs (length P)) ≡ record { outline = ring P; districts = list_to 64 (λ d. pick (eqb d 0) (ring P) unused) }
  unfolding meaning runs' n
  founded-meaning = λ i. record {
    outline = ring_of outline 0 (outline_size runs') refl outline-of i;
    districts = list_same 64 (district (written P store) runs') (λ d. pick (eqb d 0) (ring P) unused) each i;
  }
