-- What a well-formed register keeps, fact by fact. Assumes nothing.
use Prim.Native.Nat.{ℕ, ◌+◌, ◌≤◌, ◌<◌}
use native.Mathlib.Omega.{arith}
use mathlib.Core.Path.{◌≡◌}
use mathlib.Core.Bool.{true, false, not, ◌&&◌, ◌||◌}
use mathlib.Core.List.{List}
use mathlib.Core.Logic.{◌⊎◌, inl, inr}
use lib.Dec.{eqb, leb}
use lib.IntN.{ℤ}
use lib.ListN.{length}
use borrow.Author.Tests.{eqb-true, leb-true, not-true}
use Rattle.ring.specs.Grid.{some_beyond}
use Rattle.districts.specs.Counts.{all_to}
use Rattle.districts.specs.Lists.{outline_size, first_place, size, part}
use Rattle.districts.specs.WellFormed.{shaped, sized, total, packed, counted, within, on_grid, well_formed}
use Rattle.districts.specs.Lent.{Lists, formed}
use Rattle.districts.proofs.Tests.{both_left, both_right, either}
use Rattle.districts.proofs.Counting.{all-each}
use Rattle.districts.proofs.Tiles.{packed-tiles}

-- none, or 3 to 2,048
pub allowed-size : (n : ℕ) → sized n ≡ true → (n ≡ 0) ⊎ ((3 ≤ n) × (n ≤ 2048))
allowed-size n e = say (either (eqb n 0) (leb 3 n && leb n 2048) e)
  where
    say : (eqb n 0 ≡ true) ⊎ ((leb 3 n && leb n 2048) ≡ true) → (n ≡ 0) ⊎ ((3 ≤ n) × (n ≤ 2048))
    say (inl f) = inl (eqb-true n 0 f)
    say (inr f) = inr (leb-true 3 n (both_left (leb 3 n) (leb n 2048) f), leb-true n 2048 (both_right (leb 3 n) (leb n 2048) f))

pub size-most : (n : ℕ) → sized n ≡ true → n ≤ 2048
size-most n e = say (allowed-size n e)
  where
    say : (n ≡ 0) ⊎ ((3 ≤ n) × (n ≤ 2048)) → n ≤ 2048
    say (inl f) = omega arith
    say (inr f) = f.1

two-lengths : (xs ys : List ℤ) → (eqb (length xs) 2048 && eqb (length ys) 2048) ≡ true → (length xs ≡ 2048) × (length ys ≡ 2048)
two-lengths xs ys e = (eqb-true (length xs) 2048 (both_left (eqb (length xs) 2048) _ e), eqb-true (length ys) 2048 (both_right (eqb (length xs) 2048) _ e))

pub shape-told : (ox oy sx sy : List ℤ) (runs : List ℕ) → shaped ox oy sx sy runs ≡ true
    → ((length ox ≡ 2048) × (length oy ≡ 2048)) × ((length sx ≡ 2048) × (length sy ≡ 2048)) × (length runs ≡ 129)
shape-told ox oy sx sy runs e =
    let rest = both_right (eqb (length ox) 2048 && eqb (length oy) 2048) _ e in (
      two-lengths ox oy (both_left (eqb (length ox) 2048 && eqb (length oy) 2048) _ e),
      two-lengths sx sy (both_left (eqb (length sx) 2048 && eqb (length sy) 2048) _ rest),
      eqb-true (length runs) 129 (both_right (eqb (length sx) 2048 && eqb (length sy) 2048) _ rest),
    )

within-told : (xs ys : List ℤ) (n : ℕ) → within xs ys n ≡ true → (some_beyond (part xs 0 n) ≡ false) × (some_beyond (part ys 0 n) ≡ false)
within-told xs ys n e = (not-true _ (both_left (not (some_beyond (part xs 0 n))) _ e), not-true _ (both_right (not (some_beyond (part xs 0 n))) _ e))

-- the counts
module _ (runs : List ℕ) (e : counted runs ≡ true) where
  pub outline-sized : sized (outline_size runs) ≡ true
  outline-sized = both_left (sized (outline_size runs)) _ (both_left (sized (outline_size runs) && all_to 64 (λ d. sized (size runs d))) _ e)

  pub district-sized : (d : ℕ) → d < 64 → sized (size runs d) ≡ true
  district-sized = all-each (λ d. sized (size runs d)) 64 (both_right (sized (outline_size runs)) _ (both_left (sized (outline_size runs) && all_to 64 (λ d. sized (size runs d))) _ e))

  limits : (leb (total runs) 2048 && (leb 1 (outline_size runs) || eqb (total runs) 0)) ≡ true
  limits = both_right (sized (outline_size runs) && all_to 64 (λ d. sized (size runs d))) _ e

  pub total-most : total runs ≤ 2048
  total-most = leb-true (total runs) 2048 (both_left (leb (total runs) 2048) _ limits)

  -- without an outline there is no district
  pub none-without : outline_size runs ≡ 0 → total runs ≡ 0
  none-without f = say (either (leb 1 (outline_size runs)) (eqb (total runs) 0) (both_right (leb (total runs) 2048) _ limits))
    where
      say : (leb 1 (outline_size runs) ≡ true) ⊎ (eqb (total runs) 0 ≡ true) → total runs ≡ 0
      say (inl g) = absurd (let h : 1 ≤ outline_size runs = leb-true 1 (outline_size runs) g in omega arith)
      say (inr g) = eqb-true (total runs) 0 g

-- the whole
module _ (l : Lists) (e : formed l ≡ true) where
  abbrev runs : List ℕ
  runs = l.runs

  right-shape : shaped l.ox l.oy l.sx l.sy runs ≡ true
  unfolding well_formed
  right-shape = both_left (shaped l.ox l.oy l.sx l.sy runs) _ e

  rest : (counted runs && (packed runs && on_grid l.ox l.oy l.sx l.sy runs)) ≡ true
  unfolding well_formed
  rest = both_right (shaped l.ox l.oy l.sx l.sy runs) _ e

  pub outline-lengths : (length l.ox ≡ 2048) × (length l.oy ≡ 2048)
  outline-lengths = (shape-told l.ox l.oy l.sx l.sy runs right-shape).0

  pub store-lengths : (length l.sx ≡ 2048) × (length l.sy ≡ 2048)
  store-lengths = (shape-told l.ox l.oy l.sx l.sy runs right-shape).1

  pub runs-length : length runs ≡ 129
  runs-length = (shape-told l.ox l.oy l.sx l.sy runs right-shape).2

  pub right-counts : counted runs ≡ true
  right-counts = both_left (counted runs) _ rest

  pub right-packing : packed runs ≡ true
  right-packing = both_left (packed runs) _ (both_right (counted runs) _ rest)

  -- a district's run ends within the used part of the store
  pub run_inside : (d : ℕ) → d < 64 → 0 < size runs d → first_place runs d + size runs d ≤ total runs
  run_inside = (packed-tiles runs right-packing).within

  grid : (within l.ox l.oy (outline_size runs) && within l.sx l.sy (total runs)) ≡ true
  grid = both_right (packed runs) _ (both_right (counted runs) _ rest)

  pub outline-on-grid : (some_beyond (part l.ox 0 (outline_size runs)) ≡ false) × (some_beyond (part l.oy 0 (outline_size runs)) ≡ false)
  outline-on-grid = within-told l.ox l.oy (outline_size runs) (both_left (within l.ox l.oy (outline_size runs)) _ grid)

  pub store-on-grid : (some_beyond (part l.sx 0 (total runs)) ≡ false) × (some_beyond (part l.sy 0 (total runs)) ≡ false)
  store-on-grid = within-told l.sx l.sy (total runs) (both_right (within l.ox l.oy (outline_size runs)) _ grid)
