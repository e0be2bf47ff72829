-- A well-formed register as plain facts, both ways: what it tells, and what makes one. Assumes nothing.
use Prim.Native.Nat.{ℕ, ◌+◌, ◌≤◌, ◌<◌}
use native.Mathlib.Decide.{dec_lt, ℕ_discrete}
use native.Mathlib.Omega.{arith}
use mathlib.Core.Path.{◌≡◌, refl, sym, ap, ◌∙◌}
use mathlib.Core.Bool.{Bool, true, false, not, ◌&&◌, ◌||◌}
use mathlib.Core.List.{List, [], ◌∷◌}
use mathlib.Core.Logic.{◌⊎◌, inl, inr}
use lib.Dec.{eqb, leb}
use lib.IntN.{ℤ}
use lib.ListN.{length, take}
use borrow.Author.Tests.{leb-true, eq-eqb, ne_eqb, le-leb}
use Rattle.ring.specs.declared.Point.{Point}
use Rattle.ring.specs.Grid.{some_beyond}
use Rattle.ring.specs.Columns.{points, interleaved}
use Rattle.ring.proofs.Points.{length-points, points-take, same-take, interleaved-beyond}
use Rattle.ring.proofs.Pick.{neither_left, neither_right}
use Rattle.districts.specs.Counts.{all_to}
use Rattle.districts.specs.Lists.{outline_size, first_place, size, part}
use Rattle.districts.specs.WellFormed as WellFormed
use Rattle.districts.specs.WellFormed.{sized, total, counted, packed, well_formed}
use Rattle.districts.specs.Lent as Lent
use Rattle.districts.specs.Lent.{Lists, outline_of, store_of}
use Rattle.room.specs.Writing.{numbers_of}
use Rattle.districts.proofs.Tests.{both_right, either, passes-left, passes-right}
use Rattle.districts.proofs.Counting.{all_pass, all-each}
use Rattle.districts.proofs.Sound as Known
use Rattle.districts.proofs.Sound.{right-counts, right-packing, outline-sized, district-sized, total-most, none-without, outline-lengths, store-lengths, run_inside, outline-on-grid, store-on-grid}

-- the numbers of the first points of two columns are on the grid exactly if those of both columns are
numbers-points : (xs ys : List ℤ) → numbers_of (points xs ys) ≡ interleaved xs ys
unfolding numbers_of points interleaved
numbers-points [] ys = refl
numbers-points (x ∷ xs) [] = refl
numbers-points (x ∷ xs) (y ∷ ys) = ap (λ zs. x ∷ y ∷ zs) (numbers-points xs ys)

first-numbers : (xs ys : List ℤ) (n : ℕ) → length xs ≡ length ys → some_beyond (numbers_of (part (points xs ys) 0 n)) ≡ (some_beyond (part xs 0 n) || some_beyond (part ys 0 n))
first-numbers xs ys n e =
    ap (λ P. some_beyond (numbers_of P)) (points-take n xs ys)
    ∙ ap some_beyond (numbers-points (take n xs) (take n ys))
    ∙ interleaved-beyond (take n xs) (take n ys) (same-take n xs ys e)

columns-within : (xs ys : List ℤ) (n : ℕ) → length xs ≡ length ys → (some_beyond (part xs 0 n) ≡ false) × (some_beyond (part ys 0 n) ≡ false) → some_beyond (numbers_of (part (points xs ys) 0 n)) ≡ false
columns-within xs ys n e f = first-numbers xs ys n e ∙ (λ i. f.0 i || f.1 i)

within-columns : (xs ys : List ℤ) (n : ℕ) → length xs ≡ length ys → some_beyond (numbers_of (part (points xs ys) 0 n)) ≡ false → (some_beyond (part xs 0 n) ≡ false) × (some_beyond (part ys 0 n) ≡ false)
within-columns xs ys n e f = let none = sym (first-numbers xs ys n e) ∙ f in (neither_left (some_beyond (part xs 0 n)) _ none, neither_right (some_beyond (part xs 0 n)) _ none)

-- one's run ends where the other's begins or before
abbrev pub Clear : List ℕ → ℕ → ℕ → Type 0
Clear runs d e = (first_place runs d + size runs d ≤ first_place runs e) ⊎ (first_place runs e + size runs e ≤ first_place runs d)

-- the facts; `inside` and `apart` speak of numbers in use only
pub record Sound (outline store : List Point) (runs : List ℕ) : Type 0 where
  pub outline-length : length outline ≡ 2048
  pub store_length : length store ≡ 2048
  pub runs-length : length runs ≡ 129
  pub outline-size : sized (outline_size runs) ≡ true
  pub sizes : (d : ℕ) → d < 64 → sized (size runs d) ≡ true
  pub most : total runs ≤ 2048
  pub beside : outline_size runs ≡ 0 → total runs ≡ 0
  pub inside : (d : ℕ) → d < 64 → 0 < size runs d → first_place runs d + size runs d ≤ total runs
  pub apart : (d e : ℕ) → d < 64 → e < 64 → (d ≡ e → ⊥) → 0 < size runs d → 0 < size runs e → Clear runs d e
  pub outline-grid : some_beyond (numbers_of (part outline 0 (outline_size runs))) ≡ false
  pub store-grid : some_beyond (numbers_of (part store 0 (total runs))) ≡ false

-- ---- what a well-formed register tells

module _ (l : Lists) (good : Lent.formed l ≡ true) where
  abbrev runs : List ℕ
  runs = l.runs

  -- as the test says it, of a number and a lower one
  clear : (d e : ℕ) → d < 64 → e < d → WellFormed.apart runs d e ≡ true
  clear d e h k = all-each (λ e. WellFormed.apart runs d e) d (all-each (λ d. all_to d (λ e. WellFormed.apart runs d e)) 64 (both_right (all_to 64 (WellFormed.inside runs (total runs))) _ (right-packing l good)) d h) e k

  clear-of-lower : (d e : ℕ) → d < 64 → e < d → 0 < size runs d → 0 < size runs e → Clear runs d e
  clear-of-lower d e h k some other = say (either (leb (first_place runs d + size runs d) (first_place runs e)) _ ((λ i. sym none i || (before || after)) ∙ clear d e h k))
    where
      before : Bool
      before = leb (first_place runs d + size runs d) (first_place runs e)

      after : Bool
      after = leb (first_place runs e + size runs e) (first_place runs d)

      none : (eqb (size runs d) 0 || eqb (size runs e) 0) ≡ false
      none = λ i. ne_eqb (size runs d) 0 (λ (f : size runs d ≡ 0). omega arith) i || ne_eqb (size runs e) 0 (λ (f : size runs e ≡ 0). omega arith) i

      say : (before ≡ true) ⊎ (after ≡ true) → Clear runs d e
      say (inl f) = inl (leb-true _ _ f)
      say (inr f) = inr (leb-true _ _ f)

  clear_of : (d e : ℕ) → d < 64 → e < 64 → (d ≡ e → ⊥) → 0 < size runs d → 0 < size runs e → Clear runs d e
  clear_of d e h k other some more = elim (dec_lt e d) [
    | yes l ↦ clear-of-lower d e h l some more
    | no l ↦ swap (clear-of-lower e d k (omega (arith, other)) more some)
  ]
    where
      swap : Clear runs e d → Clear runs d e
      swap (inl f) = inr f
      swap (inr f) = inl f

  pub sound : Sound (outline_of l) (store_of l) runs
  sound =
      let counts = right-counts l good in
      let own = outline-lengths l good in
      let all = store-lengths l good in
      record {
        outline-length = length-points l.ox l.oy (own.0 ∙ sym own.1) ∙ own.0;
        store_length = length-points l.sx l.sy (all.0 ∙ sym all.1) ∙ all.0;
        runs-length = Known.runs-length l good;
        outline-size = outline-sized runs counts;
        sizes = district-sized runs counts;
        most = total-most runs counts;
        beside = none-without runs counts;
        inside = run_inside l good;
        apart = clear_of;
        outline-grid = columns-within l.ox l.oy (outline_size runs) (own.0 ∙ sym own.1) (outline-on-grid l good);
        store-grid = columns-within l.sx l.sy (total runs) (all.0 ∙ sym all.1) (store-on-grid l good);
      }

-- ---- what makes one

pub size-allowed : (n : ℕ) → 3 ≤ n → n ≤ 2048 → sized n ≡ true
size-allowed n least most = passes-right (eqb n 0) (λ i. le-leb 3 n least i && le-leb n 2048 most i)

-- columns of the right lengths
pub record Long (l : Lists) : Type 0 where
  pub outline : (length l.ox ≡ 2048) × (length l.oy ≡ 2048)
  pub store : (length l.sx ≡ 2048) × (length l.sy ≡ 2048)

module _ (l : Lists) (long : Long l) (s : Sound (outline_of l) (store_of l) l.runs) where
  abbrev its : List ℕ
  its = l.runs

  -- an outline, or no district
  backed : (leb 1 (outline_size its) || eqb (total its) 0) ≡ true
  backed = elim (ℕ_discrete (outline_size its) 0) [
    | yes none ↦ passes-right (leb 1 (outline_size its)) (eq-eqb (total its) 0 (s.beside none))
    | no some ↦ passes-left (le-leb 1 (outline_size its) (omega arith)) (eqb (total its) 0)
  ]

  counts : counted its ≡ true
  counts =
      let each = all_pass (λ d. sized (size its d)) 64 s.sizes in
      let few = le-leb (total its) 2048 s.most in
      λ i. (s.outline-size i && each i) && (few i && backed i)

  within : (d : ℕ) → d < 64 → WellFormed.inside its (total its) d ≡ true
  within d h = elim (ℕ_discrete (size its d) 0) [
    | yes none ↦ passes-left (eq-eqb (size its d) 0 none) _
    | no some ↦ passes-right (eqb (size its d) 0) (le-leb _ _ (s.inside d h (omega arith)))
  ]

  alone : (d : ℕ) → d < 64 → (e : ℕ) → e < d → WellFormed.apart its d e ≡ true
  alone d h e k = elim (ℕ_discrete (size its d) 0) [
    | yes none ↦ passes-left (passes-left (eq-eqb (size its d) 0 none) _) _
    | no some ↦ elim (ℕ_discrete (size its e) 0) [
      | yes none ↦ passes-left (passes-right (eqb (size its d) 0) (eq-eqb (size its e) 0 none)) _
      | no other ↦ passes-right (eqb (size its d) 0 || eqb (size its e) 0) (say (s.apart d e h (omega arith) (λ (f : d ≡ e). omega arith) (omega arith) (omega arith)))
    ]
  ]
    where
      say : Clear its d e → (leb (first_place its d + size its d) (first_place its e) || leb (first_place its e + size its e) (first_place its d)) ≡ true
      say (inl f) = passes-left (le-leb _ _ f) _
      say (inr f) = passes-right (leb (first_place its d + size its d) (first_place its e)) (le-leb _ _ f)

  packing : packed its ≡ true
  packing =
      let in-it = all_pass (WellFormed.inside its (total its)) 64 within in
      let free = all_pass (λ d. all_to d (λ e. WellFormed.apart its d e)) 64 (λ d h. all_pass (λ e. WellFormed.apart its d e) d (alone d h)) in
      λ i. in-it i && free i

  shape : WellFormed.shaped l.ox l.oy l.sx l.sy its ≡ true
  shape =
      let two : (xs ys : List ℤ) → (length xs ≡ 2048) × (length ys ≡ 2048) → (eqb (length xs) 2048 && eqb (length ys) 2048) ≡ true = λ xs ys e i. eq-eqb (length xs) 2048 e.0 i && eq-eqb (length ys) 2048 e.1 i in
      λ i. two l.ox l.oy long.outline i && (two l.sx l.sy long.store i && eq-eqb (length its) 129 s.runs-length i)

  on-grid : WellFormed.on_grid l.ox l.oy l.sx l.sy its ≡ true
  on-grid =
      let own = within-columns l.ox l.oy (outline_size its) (long.outline.0 ∙ sym long.outline.1) s.outline-grid in
      let all = within-columns l.sx l.sy (total its) (long.store.0 ∙ sym long.store.1) s.store-grid in
      λ i. (not (own.0 i) && not (own.1 i)) && (not (all.0 i) && not (all.1 i))

  pub formed : Lent.formed l ≡ true
  unfolding well_formed
  formed = λ i. shape i && (counts i && (packing i && on-grid i))
