-- An area whose vertices lie all on one side of a point's column or row: the point lies off it, and does not wind about it. Assumes nothing.
use Prim.Native.Nat.{ℕ, zero, suc, ◌+◌, ◌-◌, ◌≤◌, ◌<◌}
use native.Mathlib.Omega.{arith}
use mathlib.Core.Path.{◌≡◌, refl, sym, ap, subst₂, ◌∙◌}
use mathlib.Core.Bool.{false}
use mathlib.Core.List.{List, [], ◌∷◌}
use lib.IntN.{ℤ, pos, ◌+ℤ◌, +ℤ_idr}
use lib.ListN.{length, get_or, take, drop}
use lib.Seq.{get_or-take, get_or-drop, drop-drop}
use lib.Signed.{lt_z}
use Rattle.ring.specs.declared.Point.{Point}
use Rattle.ring.specs.Columns.{points}
use Rattle.ring.specs.Locate as Locate
use Rattle.ring.specs.Locate.{located_on}
use Rattle.ring.specs.Walk.{Aside}
use Rattle.ring.proofs.Points.{length-points}
use Rattle.ring.proofs.Missed.{missed-ring}
use Rattle.ring.specs.Columns.{Beside, over, under}
use Rattle.ring.proofs.Sides.{by_row, by-column}
use Rattle.areas.specs.Areas.{parts, given, off, after_ring, lies_from, lies_in}
use Rattle.areas.specs.Lengths.{sum}
use Rattle.areas.proofs.Past.{part_length, part-points}

-- n places from place f on: a ring, of the points or of a column
abbrev part : {A : Type 0} → List A → ℕ → ℕ → List A
part l f n = take n (drop f l)

-- a column that lies beside v: each part of it does
part-beside : (column : List ℤ) (v : ℤ) (f n : ℕ) → 0 < n → f + n ≤ length column → Beside column v 0 (length column - 1) → Beside (part column f n) v 0 (n - 1)
part-beside column v f n some inside = go
  where
    read : (j : ℕ) → j ≤ n - 1 → get_or (part column f n) (0 + j) (pos 0) ≡ get_or column (0 + (f + j)) (pos 0)
    read j h =
        let place : f + (0 + j) ≡ 0 + (f + j) = omega arith in
        get_or-take n (drop f column) (0 + j) (pos 0) (omega arith) ∙ get_or-drop f column (0 + j) (pos 0) ∙ ap (λ (i : ℕ). get_or column i (pos 0)) place

    go : Beside column v 0 (length column - 1) → Beside (part column f n) v 0 (n - 1)
    go (over all) = over (λ j h. ap (λ (z : ℤ). lt_z v z) (read j h) ∙ all (f + j) (omega arith))
    go (under all) = under (λ j h. ap (λ (z : ℤ). lt_z z v) (read j h) ∙ all (f + j) (omega arith))

module _ (xs ys : List ℤ) (R : Point) (even : length xs ≡ length ys) where
  -- by x or by y: `side` says that numbers of the column beside v are vertices on one side of R
  module _ (column : List ℤ) (v : ℤ) (long : length column ≡ length xs)
      (side : (f n : ℕ) → length (part xs f n) ≡ length (part ys f n) → 0 + (n - 1) < length (part xs f n) → Beside (part column f n) v 0 (n - 1) → Aside (points (part xs f n) (part ys f n)) R 0 (n - 1))
      (beside : Beside column v 0 (length column - 1)) where
    part-missed : (f n : ℕ) → 0 < n → f + n ≤ length xs → located_on (part (points xs ys) f n) R ≡ Locate.off (pos 0) false
    part-missed f n some inside =
        let across : length (part xs f n) ≡ n = part_length xs f n inside in
        let up : length (part ys f n) ≡ n = part_length ys f n (omega (arith, even, inside)) in
        let aside = side f n (across ∙ sym up) (omega (arith, across, some)) (part-beside column v f n some (omega (arith, long, inside)) beside) in
        let all : length (part (points xs ys) f n) ≡ n = part_length (points xs ys) f n (omega (arith, length-points xs ys even, inside)) in
        missed-ring (part (points xs ys) f n) (omega (arith, all, some)) R (subst₂ (λ P m. Aside P R 0 (m - 1)) (sym (part-points xs ys f n)) (sym all) aside)

    parts-missed : (sizes : List ℕ) (f k : ℕ) (w : ℤ) → f + sum (given sizes) ≤ length xs → lies_from k w (parts (given sizes) (drop f (points xs ys))) R ≡ off w
    unfolding given parts sum lies_from
    parts-missed [] f k w fits = refl
    parts-missed (zero ∷ ns) f k w fits = refl
    parts-missed (suc n ∷ ns) f k w fits =
        ap (λ p. after_ring k w p (λ z. lies_from (k + 1) z (parts (given ns) (drop (suc n) (drop f (points xs ys)))) R)) (part-missed f (suc n) (omega arith) (omega arith))
        ∙ ap (λ (P : List Point). lies_from (k + 1) (w +ℤ pos 0) (parts (given ns) P) R) (drop-drop (suc n) f (points xs ys))
        ∙ parts-missed ns (f + suc n) (k + 1) (w +ℤ pos 0) (omega arith)
        ∙ ap off (+ℤ_idr w)

    missed-area : (sizes : List ℕ) → sum (given sizes) ≤ length xs → lies_in (parts (given sizes) (points xs ys)) R ≡ off (pos 0)
    missed-area sizes fits = parts-missed sizes 0 0 (pos 0) (omega (arith, fits))

  -- of `Ready` only this is used: the columns are equally long and hold as many points as the sizes say, so no ring is empty
  module _ (sizes : List ℕ) (fits : sum (given sizes) ≤ length xs) where
    pub missed-area-x : Beside xs R.x 0 (length xs - 1) → lies_in (parts (given sizes) (points xs ys)) R ≡ off (pos 0)
    missed-area-x b = missed-area xs R.x refl (λ f n. by-column (part xs f n) (part ys f n) R 0 (n - 1)) b sizes fits

    pub missed-area-y : Beside ys R.y 0 (length ys - 1) → lies_in (parts (given sizes) (points xs ys)) R ≡ off (pos 0)
    missed-area-y b = missed-area ys R.y (sym even) (λ f n. by_row (part xs f n) (part ys f n) R 0 (n - 1)) b sizes fits
