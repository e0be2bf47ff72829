-- The tests of a split over the register that the lists mean are those over the numbers that the lists hold; and the slots of that register are what the store
-- holds. Assumes nothing.
use Prim.Native.Nat.{ℕ, suc, ◌+◌, ◌/◌, ◌%◌, ◌≤◌, ◌<◌}
use native.Mathlib.Decide.{ℕ_discrete, dec_lt}
use native.Mathlib.Omega.{arith}
use mathlib.Core.Path.{◌≡◌, refl, sym, ap, ◌∙◌}
use mathlib.Core.Bool.{Bool, true, false, not, ◌||◌}
use mathlib.Core.List.{List, [], ◌∷◌, ◌++◌, reverse}
use lib.Dec.{eqb, leb, ltb}
use lib.IntN.{ℤ}
use lib.ListN.{length, length-append, length-reverse, get_or-eq_default}
use Rattle.ring.specs.declared.Point.{Point}
use Rattle.ring.specs.Columns.{points}
use Rattle.ring.specs.Grid.{vertices, some_beyond}
use Rattle.ring.specs.Locate.{lowest}
use Rattle.districts.specs.Register.{slot, in_use, vertices_of}
use Rattle.districts.specs.Lent.{Lists, outline_of, store_of, formed, means, beginning}
use Rattle.districts.specs.Lists.{first_place, size, part, district, meaning}
use Rattle.districts.specs.Held.{StoreOf, district_of}
use Rattle.districts.specs.declared.store.Store.{Store}
use Rattle.districts.specs.WellFormed.{total}
use Rattle.districts.proofs.Sums.{sum_same}
use Rattle.districts.proofs.Sound.{runs-length}
use Rattle.districts.proofs.Meaning.{unused-when, ring-when, slot_is}
use Rattle.refusals.specs.Verdicts.{◌if◌}
use Rattle.districts.proofs.Lent.{part_length, held-in-use}
use Rattle.room.specs.Runs.{run, steps}
use Rattle.judging.specs.Splitting.{piece_one, piece_two, lowest_unused, vertex_count, split_tests}
use Rattle.judging.specs.Judging.{lowest_free, district_tests}
use Rattle.room.specs.Writing.{numbers_of}
use Rattle.room.proofs.Forms.{Sound}
use Rattle.room.proofs.Parts.{points-on-grid}
use Rattle.room.proofs.Written.{run_length}

-- a number over at the end makes no vertex
pub vertices-half : (xs : List ℤ) → length (vertices xs) ≡ length xs / 2
unfolding vertices
vertices-half [] = omega arith
vertices-half (x ∷ []) = omega arith
vertices-half (x ∷ y ∷ xs) = let e = vertices-half xs in omega arith

module _ (outline store : List Point) (runs : List ℕ) (s : Sound outline store runs) where
  -- a number that is not 0 stands below 64
  pub used-below : (d : ℕ) → (size runs d ≡ 0 → ⊥) → d < 64
  used-below d some = elim (dec_lt d 64) [
    | yes h ↦ h
    | no h ↦ absurd (some (get_or-eq_default runs 0 (let past : length runs ≤ 65 + d = omega (arith, s.runs-length) in past)))
  ]

  -- the ring of a number in use, as the store holds it
  pub ring-numbers : (d : ℕ) → (size runs d ≡ 0 → ⊥) → length (part store (first_place runs d) (size runs d)) ≡ size runs d
  ring-numbers d some =
      let fits = s.inside d (used-below d some) (omega arith) in
      part_length store (first_place runs d) (size runs d) (omega (arith, fits, s.most, s.store_length))

  pub ring_of_lem : (d : ℕ) → (size runs d ≡ 0 → ⊥) → vertices_of (slot (meaning outline store runs) d) ≡ part store (first_place runs d) (size runs d)
  ring_of_lem d some = ap vertices_of (slot_is outline store runs s.runs-length d ∙ ring-when store (first_place runs d) (size runs d) some)

  pub ring-on-grid : (d : ℕ) → (size runs d ≡ 0 → ⊥) → some_beyond (numbers_of (part store (first_place runs d) (size runs d))) ≡ false
  ring-on-grid d some =
      let fits = s.inside d (used-below d some) (omega (arith, some)) in
      points-on-grid store (first_place runs d) (size runs d) (total runs) fits s.store-grid

  abbrev ring_of : ℕ → List Point
  ring_of d = vertices_of (slot (meaning outline store runs) d)

  pub length-of : (d : ℕ) → length (vertices_of (slot (meaning outline store runs) d)) ≡ size runs d
  length-of d = elim (ℕ_discrete (size runs d) 0) [
    | yes none ↦ ap (λ t. length (vertices_of t)) (slot_is outline store runs s.runs-length d ∙ unused-when store (first_place runs d) (size runs d) none) ∙ sym none
    | no some ↦ ap length (ring_of_lem d some) ∙ ring-numbers d some
  ]

  pub used-is : (d : ℕ) → in_use (slot (meaning outline store runs) d) ≡ not (eqb (size runs d) 0)
  used-is d = ap in_use (slot_is outline store runs s.runs-length d) ∙ held-in-use store (first_place runs d) (size runs d)

  unused-is : (d : ℕ) → not (in_use (slot (meaning outline store runs) d)) ≡ eqb (size runs d) 0
  unused-is d = ap not (used-is d) ∙ say (eqb (size runs d) 0)
    where
      say : (b : Bool) → not (not b) ≡ b
      say true = refl
      say false = refl

  pub free-is : lowest_unused (meaning outline store runs) ≡ lowest_free runs
  unfolding lowest_unused
  free-is = λ i. lowest (λ d. unused-is d i) 64 0

  pub count-is : vertex_count (meaning outline store runs) ≡ total runs
  unfolding vertex_count
  count-is = sum_same (λ d. length (vertices_of (slot (meaning outline store runs) d))) (size runs) 64 (λ d h. length-of d)

  module _ (d i j : ℕ) (path : List ℤ) where
    piece : (a b : ℕ) (W : List Point) → length W ≡ length path / 2 → length (run (ring_of d) a (suc (steps (length (ring_of d)) a b)) ++ W) ≡ 1 + steps (size runs d) a b + length path / 2
    piece a b W e =
        length-append (run (ring_of d) a (suc (steps (length (ring_of d)) a b))) W
        ∙ (λ t. run_length (ring_of d) a (suc (steps (length (ring_of d)) a b)) t + e t)
        ∙ ap (λ n. suc (steps n a b) + length path / 2) (length-of d)
        ∙ let one : suc (steps (size runs d) a b) ≡ 1 + steps (size runs d) a b = omega arith in ap (λ n. n + length path / 2) one

    pub one-long : length (piece_one (ring_of d) i j (vertices path)) ≡ 1 + steps (size runs d) i j + length path / 2
    one-long = piece i j (reverse (vertices path)) (length-reverse (vertices path) ∙ vertices-half path)

    pub two-long : length (piece_two (ring_of d) i j (vertices path)) ≡ 1 + steps (size runs d) j i + length path / 2
    two-long = piece j i (vertices path) (vertices-half path)

    pub tests-are : (b : Bool) → split_tests b (meaning outline store runs) d i j path ≡ beginning b (meaning outline store runs) ++ district_tests runs d i j path
    tests-are b = λ t.
        beginning b (meaning outline store runs)
        ++ (6 if unused-is d t)
        ∷ (8 if (leb (length-of d t) i || leb (length-of d t) j) || eqb i j)
        ∷ (4 if eqb (length path % 2) 1)
        ∷ (5 if some_beyond path)
        ∷ (9 if ltb (one-long t) 3 || ltb (two-long t) 3)
        ∷ (11 if leb 64 (free-is t))
        ∷ (12 if ltb 2048 (count-is t + 2 + length path))
        ∷ []

-- what a number has in the store of well-formed lists is its slot
pub store_slot : (l : Lists) (s : Store) → formed l ≡ true → StoreOf l s → (d : ℕ) → district_of s d ≡ slot (means l) d
store_slot l s good held d =
    (λ i. district (points (held.0 i) (held.1 i)) (held.2 i) d) ∙ sym (slot_is (outline_of l) (store_of l) l.runs (runs-length l good) d)
