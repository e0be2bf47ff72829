-- The run of a used number leaves the store, and what stands after it moves down: the register stays well-formed, that number becomes
-- unused, and every other number keeps its ring. Assumes nothing.
use Prim.Native.Nat.{ℕ, ◌+◌, ◌-◌, ◌≤◌, ◌<◌}
use native.Mathlib.Decide.{ℕ_discrete}
use native.Mathlib.Nat.{zero-add}
use native.Mathlib.Omega.{arith}
use mathlib.Core.Path.{◌≡◌, sym, ap, ◌∙◌}
use mathlib.Core.Bool.{true, false}
use mathlib.Core.List.{List, ◌++◌}
use mathlib.Core.Logic.{◌⊎◌, inl, inr}
use lib.ListN.{set}
use borrow.Author.Tests.{le-leb, lt-leb}
use Rattle.ring.specs.declared.Point.{Point}
use Rattle.ring.specs.Grid.{some_beyond}
use Rattle.ring.proofs.Pick.{pick_true, pick-false}
use Rattle.districts.specs.Register.{unused}
use Rattle.districts.specs.Lists.{outline_size, first_place, size, part, meaning}
use Rattle.districts.specs.WellFormed.{sized, total}
use Rattle.districts.proofs.Meaning.{part-within, unused-when}
use Rattle.room.specs.Writing.{numbers_of, Left}
use Rattle.room.proofs.Forms.{Clear, Sound}
use Rattle.room.proofs.Parts.{part-add, part-carried, points-on-grid, both-on-grid, held_same, sum-but-one, meaning-but-one}

pub left-total : (store : List Point) (runs : List ℕ) (d : ℕ) (store' : List Point) (runs' : List ℕ) → d < 64 → Left store runs d store' runs' → total runs' + size runs d ≡ total runs
left-total store runs d store' runs' below l =
    let but-one : total runs' + size runs d ≡ total runs + size runs' d = sum-but-one (size runs') (size runs) 64 d below l.sizes in
    omega (arith, l.gone)

module _ (outline store : List Point) (runs : List ℕ) (d : ℕ) (store' : List Point) (runs' : List ℕ)
    (s : Sound outline store runs) (below : d < 64) (used : 0 < size runs d) (l : Left store runs d store' runs') where
  fits : first_place runs d + size runs d ≤ total runs
  fits = s.inside d below used

  total_of : total runs' + size runs d ≡ total runs
  total_of = left-total store runs d store' runs' below l

  -- a number that is still in use is not d, and was in use
  still : (e : ℕ) → e < 64 → 0 < size runs' e → (e ≡ d → ⊥) × (0 < size runs e)
  still e h some = (other, omega (arith, l.sizes e h other))
    where
      other : e ≡ d → ⊥
      other same = let its : size runs' e ≡ size runs' d = ap (size runs') same in omega (arith, l.gone)

  -- a run before d's stays, one after it moves down by d's size
  Stays : ℕ → Type 0
  Stays e = (first_place runs e + size runs e ≤ first_place runs d) × (first_place runs' e ≡ first_place runs e)

  Moves : ℕ → Type 0
  Moves e = (first_place runs d + size runs d ≤ first_place runs e) × (first_place runs' e + size runs d ≡ first_place runs e)

  goes : (e : ℕ) → e < 64 → (e ≡ d → ⊥) → 0 < size runs e → Stays e ⊎ Moves e
  unfolding Stays Moves
  goes e h other some = say (s.apart e d h below other some used)
    where
      say : Clear runs e d → Stays e ⊎ Moves e
      say (inl before) = inl (before, l.places e h other ∙ pick-false (lt-leb (first_place runs d + size runs d) (first_place runs e) (omega arith)) _ _)
      say (inr after) =
          let place = l.places e h other ∙ pick_true (le-leb (first_place runs d + size runs d) (first_place runs e) after) _ _ in
          inr (after, omega (arith, place))

  -- ---- the facts

  each-size : (e : ℕ) → e < 64 → sized (size runs' e) ≡ true
  each-size e h = elim (ℕ_discrete e d) [
    | yes same ↦ ap (λ k. sized (size runs' k)) same ∙ ap sized l.gone
    | no other ↦ ap sized (l.sizes e h other) ∙ s.sizes e h
  ]

  within : (e : ℕ) → e < 64 → 0 < size runs' e → first_place runs' e + size runs' e ≤ total runs'
  unfolding Stays Moves
  within e h some = say (goes e h (still e h some).0 (still e h some).1)
    where
      say : Stays e ⊎ Moves e → first_place runs' e + size runs' e ≤ total runs'
      say (inl stays) = omega (arith, stays.0, stays.1, l.sizes e h (still e h some).0, fits, total_of)
      say (inr moves) = omega (arith, moves.1, s.inside e h (still e h some).1, l.sizes e h (still e h some).0, total_of)

  clear : (e k : ℕ) → e < 64 → k < 64 → (e ≡ k → ⊥) → 0 < size runs' e → 0 < size runs' k → Clear runs' e k
  unfolding Stays Moves
  clear e k h b differ some more =
      say (goes e h (still e h some).0 (still e h some).1) (goes k b (still k b more).0 (still k b more).1) (s.apart e k h b differ (still e h some).1 (still k b more).1)
    where
      its : size runs' e ≡ size runs e
      its = l.sizes e h (still e h some).0

      other : size runs' k ≡ size runs k
      other = l.sizes k b (still k b more).0

      say : Stays e ⊎ Moves e → Stays k ⊎ Moves k → Clear runs e k → Clear runs' e k
      say (inl x) (inl y) (inl f) = inl (omega (arith, x.1, y.1, its, other))
      say (inl x) (inl y) (inr f) = inr (omega (arith, x.1, y.1, its, other))
      say (inl x) (inr y) f = inl (omega (arith, x.0, x.1, y.0, y.1, its, other))
      say (inr x) (inl y) f = inr (omega (arith, x.0, x.1, y.0, y.1, its, other))
      say (inr x) (inr y) (inl f) = inl (omega (arith, x.1, y.1, its, other))
      say (inr x) (inr y) (inr f) = inr (omega (arith, x.1, y.1, its, other))

  all-on-grid : some_beyond (numbers_of (part store' 0 (total runs'))) ≡ false
  all-on-grid =
      ap (λ n. some_beyond (numbers_of (part store' 0 n))) count
      ∙ ap (λ P. some_beyond (numbers_of P)) (part-add store' 0 (first_place runs d) after ∙ (λ i. l.lower i ++ behind i))
      ∙ both-on-grid (part store 0 (first_place runs d)) (part store (first_place runs d + size runs d) after)
      (points-on-grid store 0 (first_place runs d) (total runs) (omega (arith, fits)) s.store-grid)
      (points-on-grid store (first_place runs d + size runs d) after (total runs) (omega (arith, fits)) s.store-grid)
    where
      after : ℕ
      after = total runs - (first_place runs d + size runs d)

      count : total runs' ≡ first_place runs d + after
      count = omega (arith, total_of, fits)

      behind : part store' (0 + first_place runs d) after ≡ part store (first_place runs d + size runs d) after
      behind = ap (λ p. part store' p after) (zero-add (first_place runs d)) ∙ l.moved

  pub left-sound : Sound outline store' runs'
  left-sound = record {
    outline-length = s.outline-length;
    store_length = l.long-store;
    runs-length = l.long-runs;
    outline-size = ap sized l.outline-same ∙ s.outline-size;
    sizes = each-size;
    most = omega (arith, total_of, s.most);
    beside = λ (f : outline_size runs' ≡ 0). let none = s.beside (sym l.outline-same ∙ f) in omega (arith, none, total_of);
    inside = within;
    apart = clear;
    outline-grid = ap (λ n. some_beyond (numbers_of (part outline 0 n))) l.outline-same ∙ s.outline-grid;
    store-grid = all-on-grid;
  }

  -- ---- the meaning

  -- a run that stays lies in the lower piece, one that moves in the moved piece
  same-part : (e : ℕ) → e < 64 → (e ≡ d → ⊥) → 0 < size runs e → part store' (first_place runs' e) (size runs e) ≡ part store (first_place runs e) (size runs e)
  unfolding Stays Moves
  same-part e h other some = say (goes e h other some)
    where
      say : Stays e ⊎ Moves e → part store' (first_place runs' e) (size runs e) ≡ part store (first_place runs e) (size runs e)
      say (inl stays) =
          ap (λ p. part store' p (size runs e)) stays.1
          ∙ sym (part-within store' (first_place runs e) (size runs e) (first_place runs d) stays.0)
          ∙ ap (λ xs. part xs (first_place runs e) (size runs e)) l.lower
          ∙ part-within store (first_place runs e) (size runs e) (first_place runs d) stays.0
      say (inr moves) =
          let by : ℕ = first_place runs' e - first_place runs d in
          let new : first_place runs' e ≡ first_place runs d + by = omega (arith, moves.0, moves.1) in
          let old : first_place runs d + size runs d + by ≡ first_place runs e = omega (arith, moves.0, moves.1) in
          let all = s.inside e h some in
          ap (λ p. part store' p (size runs e)) new
          ∙ part-carried store' store (first_place runs d) (first_place runs d + size runs d) (total runs - (first_place runs d + size runs d)) by (size runs e) l.moved (omega (arith, moves.0, moves.1, all))
          ∙ ap (λ p. part store p (size runs e)) old

  -- ---- together

  pub left-meaning : meaning outline store' runs'
      ≡ record { outline = (meaning outline store runs).outline; districts = set (meaning outline store runs).districts d unused }
  left-meaning = meaning-but-one outline store store' runs runs' d unused l.outline-same
      (λ h. unused-when store' (first_place runs' d) (size runs' d) l.gone)
      (λ e h other. held_same store' store (first_place runs' e) (first_place runs e) (size runs' e) (size runs e) (l.sizes e h other) (same-part e h other))
