-- A ring whose vertices lie all on one side of R's row or column: no edge holds R, and the winding number about it is 0. Assumes nothing.
use Prim.Native.Nat.{ℕ, suc, ◌+◌, ◌-◌, ◌≤◌, ◌<◌}
use native.Mathlib.Decide.{dec_lt}
use native.Mathlib.Nat.{zero-add}
use native.Mathlib.Omega.{arith}
use mathlib.Core.Path.{◌≡◌, sym, ap, subst, ◌∙◌}
use mathlib.Core.Bool.{Bool, true, false}
use mathlib.Core.List.{List}
use lib.ListN.{length}
use lib.IntN.{ℤ, pos, ◌-ℤ◌, +ℤ_invr}
use lib.Signed.{lt_z}
use Rattle.ring.specs.declared.Point.{Point}
use Rattle.ring.specs.Choices.{count}
use Rattle.ring.specs.Rings.{at, Weight, ring_sum}
use Rattle.ring.specs.Turns.{winding, oddly}
use Rattle.ring.specs.Crossings.{below, crossing}
use Rattle.ring.specs.Segment.{on_segment}
use Rattle.ring.specs.Locate.{off, on_edge, located_on}
use Rattle.ring.specs.Walk.{Aside, north, south, east, west}
use Rattle.ring.proofs.Vertices.{at-end}
use Rattle.ring.proofs.Sums.{total_falls}
use Rattle.ring.proofs.Crossings.{above-row, below_row, west-of, east-of, crossings-winding}
use Rattle.ring.proofs.Settled.{off-ring}

module _ (P : List Point) (some : 0 < length P) where
  -- a fact about every vertex is one about the vertex behind the last, which is the first
  on-and-on : (p : Point → Type 0) → ((j : ℕ) → j ≤ length P - 1 → p (at P (0 + j))) → (j : ℕ) → j ≤ length P → p (at P j)
  on-and-on p all j h = elim (dec_lt j (length P)) [
    | yes low ↦ subst (λ (m : ℕ). p (at P m)) (zero-add j) (all j (omega arith))
    | no high ↦ subst p (sym (at-end P some) ∙ ap (at P) (let e : length P ≡ j = omega arith in e)) (all 0 (omega arith))
  ]

  -- where each edge weighs what a number of its first end is more than that of its second, the ring weighs nothing
  pub ring-falls : (f : Weight) (g : Point → ℤ) → ((j : ℕ) → j < length P → f (at P j) (at P (suc j)) ≡ g (at P j) -ℤ g (at P (suc j))) → ring_sum f P ≡ pos 0
  unfolding ring_sum
  ring-falls f g each = total_falls f g (at P) (length P) each ∙ ap (λ (E : Point). g (at P 0) -ℤ g E) (at-end P some) ∙ +ℤ_invr (g (at P 0))

  module _ (R : Point) where
    abbrev Passed : (Point → ℤ) → Type 0
    Passed g = (j : ℕ) → j < length P → (on_edge P R j ≡ false) × (crossing R (at P j) (at P (suc j)) ≡ g (at P j) -ℤ g (at P (suc j)))

    passed-by : (g : Point → ℤ) → Passed g → located_on P R ≡ off (pos 0) false
    passed-by g each =
        let free : (j : ℕ) → j < length P → on_edge P R j ≡ false = λ j h. (each j h).0 in
        let none : winding P R ≡ pos 0 = sym (crossings-winding P R some free) ∙ ring-falls (crossing R) g (λ j h. (each j h).1) in
        off-ring P R free ∙ (λ i. off (none i) (oddly (none i)))

    -- from both ends of an edge
    edges : (side : Point → Bool) (g : Point → ℤ) → ((j : ℕ) → j ≤ length P - 1 → side (at P (0 + j)) ≡ true)
        → ((A B : Point) → side A ≡ true → side B ≡ true → (on_segment R A B ≡ false) × (crossing R A B ≡ g A -ℤ g B)) → Passed g
    edges side g all law j h = let each = on-and-on (λ p. side p ≡ true) all in law (at P j) (at P (suc j)) (each j (omega arith)) (each (suc j) h)

    pub missed-ring : Aside P R 0 (length P - 1) → located_on P R ≡ off (pos 0) false
    missed-ring (north all) = passed-by (λ p. pos 0) (edges (λ p. lt_z R.y p.y) (λ p. pos 0) all (above-row R))
    missed-ring (south all) = passed-by (λ p. pos 0) (edges (λ p. lt_z p.y R.y) (λ p. pos 0) all (below_row R))
    missed-ring (east all) = passed-by (λ p. pos (count (below R p))) (edges (λ p. lt_z R.x p.x) (λ p. pos (count (below R p))) all (east-of R))
    missed-ring (west all) = passed-by (λ p. pos 0) (edges (λ p. lt_z p.x R.x) (λ p. pos 0) all (west-of R))
