-- Going over the rings of an area in the columns: when locating may take the next ring, and what is known behind it. Assumes nothing.
use Prim.Native.Nat.{ℕ, ◌+◌, ◌-◌, ◌*◌, ◌≤◌, ◌<◌}
use native.Mathlib.Numerals.{add-one}
use native.Mathlib.Omega.{arith}
use mathlib.Core.Path.{◌≡◌, refl, sym, ap, subst, subst₂, ◌∙◌}
use mathlib.Core.Bool.{Bool, false, ◌||◌, or_assoc}
use mathlib.Core.List.{List, [], ◌∷◌, ◌++◌}
use lib.IntN.{ℤ, nat_abs, ◌+ℤ◌}
use lib.ListN.{length, get_or, take, drop, length-take, length-drop, take-append-drop, drop_of_length-le}
use lib.Seq.{drop-cons, drop-drop}
use lib.Dec.{ltb}
use borrow.Author.Tests.{ltb-false}
use mir.Syntax.{w32}
use mir.Val.{SFits}
use Rattle.exact.proofs.Bounds.{nat_abs-add, within-add}
use Rattle.ring.specs.declared.Point.{Point}
use Rattle.ring.specs.Grid.{beyond, some_beyond}
use Rattle.ring.specs.Columns.{points, IsRing}
use Rattle.ring.specs.Turns.{winding}
use Rattle.ring.specs.Locate as Locate
use Rattle.ring.specs.Locate.{Touch, Place, located_on}
use Rattle.ring.specs.Walk.{most_turns}
use Rattle.ring.proofs.Points.{length-points, points-take, points-drop}
use Rattle.ring.proofs.Pick.{neither_left, neither_right}
use Rattle.columns.specs.Walk.{Clean}
use Rattle.areas.specs.Areas.{parts, given, Lie, on, off, after_ring, lies_from, lies_in}
use Rattle.areas.specs.Lengths.{most_rings, sum, outside, some_outside}
use Rattle.areas.specs.Walk.{Ready, most_about}
use Rattle.areas.proofs.Given.{given-none, given-some}
use Rattle.areas.proofs.Lies.{met-or-free}
use Rattle.areas.proofs.Told.{Told, holds, passed, told, off-winding, winding-few}

-- ---- one ring: n places of the columns from place f on

beyond-append : (xs ys : List ℤ) → some_beyond (xs ++ ys) ≡ (some_beyond xs || some_beyond ys)
beyond-append [] ys = refl
beyond-append (x ∷ xs) ys = ap (λ (b : Bool). beyond x || b) (beyond-append xs ys) ∙ sym (or_assoc (beyond x) (some_beyond xs) (some_beyond ys))

part-on-grid : (f n : ℕ) (xs : List ℤ) → some_beyond xs ≡ false → some_beyond (take n (drop f xs)) ≡ false
part-on-grid f n xs e =
    let behind : some_beyond (drop f xs) ≡ false = neither_right (some_beyond (take f xs)) _ (sym (beyond-append (take f xs) (drop f xs)) ∙ ap some_beyond (take-append-drop f xs) ∙ e) in
    neither_left _ (some_beyond (drop n (drop f xs))) (sym (beyond-append (take n (drop f xs)) (drop n (drop f xs))) ∙ ap some_beyond (take-append-drop n (drop f xs)) ∙ behind)

pub part_length : {A : Type 0} (l : List A) (f n : ℕ) → f + n ≤ length l → length (take n (drop f l)) ≡ n
part_length l f n h = simp (length-take, length-drop) (omega arith)

-- the part of the points is the points of the parts
pub part-points : (xs ys : List ℤ) (f n : ℕ) → take n (drop f (points xs ys)) ≡ points (take n (drop f xs)) (take n (drop f ys))
part-points xs ys f n = ap (take n) (points-drop f xs ys) ∙ points-take n (drop f xs) (drop f ys)

module _ (xs ys : List ℤ) (R : Point) (clean : Clean xs ys R) (f n : ℕ) (least : 3 ≤ n) (inside : f + n ≤ length xs) where
  -- as the code cuts it
  cut : {A : Type 0} (l : List A) → take (f + n - f) (drop f l) ≡ take n (drop f l)
  cut l = let e : f + n - f ≡ n = omega arith in λ i. take (e i) (drop f l)

  ring-ready : IsRing (take (f + n - f) (drop f xs)) (take (f + n - f) (drop f ys))
  ring-ready =
      let across : length (take n (drop f xs)) ≡ n = part_length xs f n inside in
      let up : length (take n (drop f ys)) ≡ n = part_length ys f n (let e = clean.even in omega arith) in
      let most = clean.most in
      subst₂ IsRing (sym (cut xs)) (sym (cut ys)) (record {
        even = across ∙ sym up;
        least = omega (arith, across);
        most = omega (arith, across, most, inside);
        grid-x = part-on-grid f n xs clean.grid-x;
        grid-y = part-on-grid f n ys clean.grid-y;
      })

  ring-points : points (take (f + n - f) (drop f xs)) (take (f + n - f) (drop f ys)) ≡ take n (drop f (points xs ys))
  ring-points = (λ i. points (cut xs i) (cut ys i)) ∙ sym (part-points xs ys f n)

  -- by that ring alone
  ring-lies : (k : ℕ) (w : ℤ) (p : Place) → p ≡ located_on (points (take (f + n - f) (drop f xs)) (take (f + n - f) (drop f ys))) R → after_ring k w p off ≡ lies_from k w (take n (drop f (points xs ys)) ∷ []) R
  unfolding lies_from
  ring-lies k w p e = ap (λ q. after_ring k w q off) (e ∙ ap (λ P. located_on P R) ring-points)

  ring-few : (v : ℤ) (o : Bool) → Locate.off v o ≡ located_on (points (take (f + n - f) (drop f xs)) (take (f + n - f) (drop f ys))) R → nat_abs v ≤ most_turns
  ring-few v o e =
      let P = points (take (f + n - f) (drop f xs)) (take (f + n - f) (drop f ys)) in
      let r = ring-ready in
      subst (λ (z : ℤ). nat_abs z ≤ most_turns) (sym (off-winding P R v o (sym e))) (omega (arith, winding-few P R, length-points (take (f + n - f) (drop f xs)) (take (f + n - f) (drop f ys)) r.even, r.most))

-- ---- one ring, then those behind it

-- on the ring: those behind it don't matter
met-first : (k j : ℕ) (w : ℤ) (P : List Point) (Ps : List (List Point)) (R : Point) (t : Touch) → lies_from k w (P ∷ []) R ≡ on j t → lies_from k w (P ∷ Ps) R ≡ on j t
unfolding lies_from
met-first k j w P Ps R t = go (located_on P R) (told P R)
  where
    go : (p : Place) → Told P R p → after_ring k w p off ≡ on j t → after_ring k w p (λ v. lies_from (k + 1) v Ps R) ≡ on j t
    go p (holds u) e = e
    go p passed e = absurd (met-or-free j t _ (sym e))

-- off it: they decide, and the number has grown by this ring's alone
passed_first : (k : ℕ) (w v : ℤ) (P : List Point) (Ps : List (List Point)) (R : Point) → lies_from k w (P ∷ []) R ≡ off v → (lies_from k w (P ∷ Ps) R ≡ lies_from (k + 1) v Ps R) × (w +ℤ winding P R ≡ v)
unfolding lies_from
passed_first k w v P Ps R = go (located_on P R) (told P R)
  where
    go : (p : Place) → Told P R p → after_ring k w p off ≡ off v → (after_ring k w p (λ z. lies_from (k + 1) z Ps R) ≡ lies_from (k + 1) v Ps R) × (w +ℤ winding P R ≡ v)
    go p (holds t) e = absurd (met-or-free k t v e)
    go p passed e = let same : w +ℤ winding P R ≡ v = cc in (ap (λ (z : ℤ). lies_from (k + 1) z Ps R) same, same)

-- ---- from one ring to the next

-- how R lies to the area
abbrev Whole : List ℤ → List ℤ → List ℕ → Point → Lie
Whole xs ys sizes R = lies_in (parts (given sizes) (points xs ys)) R

-- what is known when k rings, of `at` vertices together, were passed: the rings left decide, their sizes are allowed and fit, and the number so far is small
pub record Past (xs ys : List ℤ) (sizes : List ℕ) (R : Point) (about : ℤ) (at k : ℕ) : Type 0 where
  pub lies : lies_from k about (parts (given (drop k sizes)) (drop at (points xs ys))) R ≡ Whole xs ys sizes R
  pub sized : some_outside (given (drop k sizes)) ≡ false
  pub fits : at + sum (given (drop k sizes)) ≤ length xs
  pub few : nat_abs about ≤ k * most_turns

none_left : (xs ys : List ℤ) (sizes : List ℕ) (R : Point) (about : ℤ) (at k : ℕ) → Past xs ys sizes R about at k → given (drop k sizes) ≡ [] → off about ≡ Whole xs ys sizes R
unfolding parts lies_from
none_left xs ys sizes R about at k past e = ap (λ ns. lies_from k about (parts ns (drop at (points xs ys))) R) (sym e) ∙ past.lies

-- no ring is left: all nine were passed
pub past_all : (xs ys : List ℤ) (sizes : List ℕ) (R : Point) (about : ℤ) (at k : ℕ) → Ready xs ys sizes R → Past xs ys sizes R about at k → most_rings ≤ k → off about ≡ Whole xs ys sizes R
unfolding given
past_all xs ys sizes R about at k ready past h = none_left xs ys sizes R about at k past (ap given (drop_of_length-le sizes {i = k} (omega (arith, ready.nine, h))))

-- the next size is read
pub record Read (xs ys : List ℤ) (sizes : List ℕ) (R : Point) (about : ℤ) (at k : ℕ) : Type 0 where
  pub ready : Ready xs ys sizes R
  pub past : Past xs ys sizes R about at k
  pub low : k < most_rings

module _ {xs ys : List ℤ} {sizes : List ℕ} {R : Point} {about : ℤ} {at k : ℕ} (read : Read xs ys sizes R about at k) where
  abbrev n : ℕ
  n = get_or sizes k 0

  ahead : drop k sizes ≡ n ∷ drop (k + 1) sizes
  ahead = drop-cons sizes k 0 (omega (arith, read.low, read.ready.nine)) ∙ (λ i. n ∷ drop (sym (add-one k) i) sizes)

  -- no ring is left: a 0 was read
  pub past_end : n ≡ 0 → off about ≡ Whole xs ys sizes R
  past_end e = none_left xs ys sizes R about at k read.past (ap given ahead ∙ given-none n (drop (k + 1) sizes) e)

  next-few : nat_abs about ≤ most_about
  next-few = omega (arith, read.past.few, read.low)

  module _ (some : n ≡ 0 → ⊥) where
    next : given (drop k sizes) ≡ n ∷ given (drop (k + 1) sizes)
    next = ap given ahead ∙ given-some n (drop (k + 1) sizes) some

    abbrev ring : List Point
    ring = take n (drop at (points xs ys))

    abbrev behind : List (List Point)
    behind = parts (given (drop (k + 1) sizes)) (drop (at + n) (points xs ys))

    tests : (outside n || some_outside (given (drop (k + 1) sizes))) ≡ false
    unfolding some_outside
    tests = sym (ap some_outside next) ∙ read.past.sized

    left : at + (n + sum (given (drop (k + 1) sizes))) ≤ length xs
    unfolding sum
    left = subst (λ ns. at + sum ns ≤ length xs) next read.past.fits

    next-least : 3 ≤ n
    next-least = ltb-false n 3 (neither_left (ltb n 3) _ (neither_left (outside n) _ tests))

    pub next-inside : at + n ≤ length xs
    next-inside = omega (arith, left)

    rings : lies_from k about (ring ∷ behind) R ≡ Whole xs ys sizes R
    unfolding parts
    rings =
        ap (λ Q. lies_from k about (ring ∷ parts (given (drop (k + 1) sizes)) Q) R) (sym (drop-drop n at (points xs ys)))
        ∙ ap (λ ns. lies_from k about (parts ns (drop at (points xs ys))) R) (sym next)
        ∙ read.past.lies

    past-on : (j : ℕ) (t : Touch) → lies_from k about (ring ∷ []) R ≡ on j t → on j t ≡ Whole xs ys sizes R
    past-on j t e = sym (met-first k j about ring behind R t e) ∙ rings

    past_more : (v : ℤ) → lies_from k about (ring ∷ []) R ≡ off v → Past xs ys sizes R v (at + n) (k + 1)
    past_more v e =
        let clean = read.ready.clean in
        let (same, added) = passed_first k about v ring behind R e in
        let long : length ring ≡ n = part_length (points xs ys) at n (omega (arith, length-points xs ys clean.even, next-inside)) in
        record {
          lies = sym same ∙ rings;
          sized = neither_right (outside n) _ tests;
          fits = omega (arith, left);
          few = subst (λ (z : ℤ). nat_abs z ≤ (k + 1) * most_turns) added (omega (arith, nat_abs-add about (winding ring R), winding-few ring R, long, read.past.few, next-inside, clean.most));
        }

    -- ---- the same of the columns as the code cuts them

    abbrev cut_points : List Point
    cut_points = points (take (at + n - at) (drop at xs)) (take (at + n - at) (drop at ys))

    pub next-ready : IsRing (take (at + n - at) (drop at xs)) (take (at + n - at) (drop at ys))
    next-ready = ring-ready xs ys R read.ready.clean at n next-least next-inside

    pub next-on : (t : Touch) → Locate.on t ≡ located_on cut_points R → on k t ≡ Whole xs ys sizes R
    next-on t e = past-on k t (sym (ring-lies xs ys R read.ready.clean at n next-least next-inside k about (Locate.on t) e))

    pub next-off : (w : ℤ) (o : Bool) → Locate.off w o ≡ located_on cut_points R → Past xs ys sizes R (about +ℤ w) (at + n) (k + 1)
    next-off w o e = past_more (about +ℤ w) (sym (ring-lies xs ys R read.ready.clean at n next-least next-inside k about (Locate.off w o) e))

    -- the sum of the winding numbers fits
    pub next-fits : (w : ℤ) (o : Bool) → Locate.off w o ≡ located_on cut_points R → SFits w32 (about +ℤ w)
    next-fits w o e = within-add w32 about w most_about most_turns next-few (ring-few xs ys R read.ready.clean at n next-least next-inside w o e) tt
