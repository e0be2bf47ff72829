-- The rules' answer to a list and a point, by the two tests that come first. Assumes nothing.
use Prim.Native.Nat.{◌/◌, ◌%◌, ◌≤◌}
use native.Mathlib.Omega.{arith}
use mathlib.Core.Path.{◌≡◌, sym, ap, ◌∙◌}
use mathlib.Core.Bool.{Bool, true, false, ◌||◌}
use mathlib.Core.List.{List}
use lib.Dec.{eqb, ltb}
use lib.IntN.{ℤ}
use lib.ListN.{length}
use mir.Syntax.{w32}
use mir.Val.{SFits, to_z, of_z}
use mir.Facts.{to_z-of_z}
use borrow.Author.Tests.{eqb-false, ltb-false, ne_eqb, le-ltb}
use Rattle.ring.specs.Grid.{point, vertices, beyond, some_beyond, no_ring}
use Rattle.ring.specs.Locate.{refused, located, located_on}
use Rattle.ring.specs.Columns.{IsPairs}
use Rattle.ring.specs.Walk.{OnGrid}
use Rattle.ring.proofs.Vertices.{length-vertices}
use Rattle.ring.proofs.Pick.{pick_true, pick-false, neither_left, neither_right}
use Rattle.ring.proofs.OnGrid.{point-on-grid}

module _ (xs : List ℤ) (a b : ℤ) where
  abbrev pub no_ring_of : Bool
  no_ring_of = no_ring (length xs) (length xs / 2)

  abbrev pub beyond_of : Bool
  beyond_of = some_beyond xs || (beyond a || beyond b)

  -- the second test, as the code makes it of the list and of numbers of 32 bits
  pub tested-beyond : {s p q : Bool} → SFits w32 a → SFits w32 b → s ≡ some_beyond xs → p ≡ beyond (to_z w32 (of_z w32 a)) → q ≡ beyond (to_z w32 (of_z w32 b)) → beyond_of ≡ (s || (p || q))
  tested-beyond f g e d h = sym (λ i. e i || ((d ∙ ap beyond (to_z-of_z f)) i || (h ∙ ap beyond (to_z-of_z g)) i))

  pub located-no-ring : no_ring_of ≡ true → refused 4 ≡ located xs a b
  unfolding located
  located-no-ring e = sym (pick_true e _ _)

  pub located-beyond : no_ring_of ≡ false → beyond_of ≡ true → refused 5 ≡ located xs a b
  unfolding located
  located-beyond e f = sym (pick-false e _ _ ∙ pick_true f _ _)

  -- a short list of even length makes a ring
  pub short-ring : 6 ≤ length xs → length xs ≤ 33 → (length xs % 2 ≡ 1 → ⊥) → no_ring_of ≡ false
  short-ring least most even = let m = length xs in (λ i. ne_eqb (m % 2) 1 even i || (le-ltb (m / 2) 3 (omega arith) i || le-ltb 2048 (m / 2) (omega arith) i))

  -- what passes both tests is a ring and a point of the grid
  pub record Asked : Type 0 where
    pub accepted : located_on (vertices xs) (point a b) ≡ located xs a b
    pub ring : IsPairs xs
    pub point : OnGrid (point a b)

  pub asked : no_ring_of ≡ false → beyond_of ≡ false → Asked
  unfolding located
  asked e f =
      let m = length xs in
      let p = neither_right (some_beyond xs) _ f in
      let odd = eqb-false (m % 2) 1 (neither_left (eqb (m % 2) 1) _ e) in
      let sized = neither_right (eqb (m % 2) 1) _ e in
      let few = ltb-false (m / 2) 3 (neither_left (ltb (m / 2) 3) _ sized) in
      let many = ltb-false 2048 (m / 2) (neither_right (ltb (m / 2) 3) _ sized) in
      let size : length (vertices xs) ≡ m / 2 = length-vertices xs (m / 2) (omega arith) in
      record {
        accepted = sym (pick-false e _ _ ∙ pick-false f _ _);
        ring = record { even = omega (arith, size); least = omega (arith, size, few); most = omega (arith, size, many); grid = neither_left (some_beyond xs) _ f };
        point = point-on-grid a b (neither_left (beyond a) _ p) (neither_right (beyond a) _ p);
      }
