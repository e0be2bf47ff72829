-- The quarter turns round a ring that does not hold R add up to a multiple of four, and the winding number is exactly a quarter of them. Assumes nothing.
use Prim.Native.Nat.{ℕ, ◌/◌, ◌%◌, ◌≤◌, ◌<◌}
use native.Mathlib.Omega.{arith}
use mathlib.Core.Path.{◌≡◌, refl, sym, ap, ◌∙◌}
use mathlib.Core.Bool.{Bool, true, false, ◌||◌}
use mathlib.Core.List.{List}
use lib.Dec.{ltb, eqb}
use lib.ListN.{length}
use lib.IntN.{ℤ, pos, ◌*ℤ◌}
use borrow.Author.Tests.{ltb-false}
use Rattle.ring.specs.declared.Point.{Point}
use Rattle.ring.specs.Grid.{point, beyond, some_beyond, vertices, no_ring}
use Rattle.ring.specs.Choices.{pick}
use Rattle.ring.specs.Rings.{ring_sum}
use Rattle.ring.specs.Turns.{quarter_turns, winding, oddly}
use Rattle.ring.specs.Locate.{Place, vertex, edge, on, off, refused, lowest, highest, at_vertex, on_edge, touching, located_on, located}
use Rattle.ring.proofs.Vertices.{length-at-least}
use Rattle.ring.proofs.Pick.{neither_left, neither_right}
use Rattle.ring.proofs.Crossings.{crossings-turns, crossings-winding}
use Rattle.ring.proofs.Search.{lowest-over}

pub winding-exact : (P : List Point) (R : Point) → 0 < length P → ((i : ℕ) → i < length P → on_edge P R i ≡ false) → pos 4 *ℤ winding P R ≡ ring_sum (quarter_turns R) P
winding-exact P R some free = ap (λ (w : ℤ). pos 4 *ℤ w) (sym (crossings-winding P R some free)) ∙ sym (crossings-turns P R some free)

-- ---- the same of an answer Off

-- such an answer comes where no edge was found
past-edges : (n v v' e e' : ℕ) (w z : ℤ) (o : Bool) → touching vertex n v v' (touching edge n e e' (off z (oddly z))) ≡ off w o → (n ≤ e) × (z ≡ w)
past-edges n v v' e e' w z o = go (ltb v n) (ltb e n) (ltb-false e n)
  where
    go : (a b : Bool) → (b ≡ false → n ≤ e) → pick a (on (vertex v v')) (pick b (on (edge e e')) (off z (oddly z))) ≡ off w o → (n ≤ e) × (z ≡ w)
    go true b g h = let clash : ◌≡◌ {A = ℕ} 0 1 = cc in absurd (let f : ⊥ = omega arith in f)
    go false true g h = let clash : ◌≡◌ {A = ℕ} 0 1 = cc in absurd (let f : ⊥ = omega arith in f)
    go false false g h = (g refl, cc)

off-said : (P : List Point) (R : Point) (w : ℤ) (o : Bool) → located_on P R ≡ off w o → (length P ≤ lowest (on_edge P R) (length P) 0) × (winding P R ≡ w)
unfolding located_on
off-said P R w o e =
    past-edges (length P) (lowest (at_vertex P R) (length P) 0) (highest (at_vertex P R) (length P)) (lowest (on_edge P R) (length P) 0) (highest (on_edge P R) (length P)) w (winding P R) o e

pub off-exact : (P : List Point) (R : Point) (w : ℤ) (o : Bool) → 0 < length P → located_on P R ≡ off w o → pos 4 *ℤ w ≡ ring_sum (quarter_turns R) P
off-exact P R w o some e =
    let s = off-said P R w o e in
    ap (λ (z : ℤ). pos 4 *ℤ z) (sym s.1) ∙ winding-exact P R some (lowest-over (on_edge P R) (length P) s.0)

-- an answer Off of `located` is no refusal
accepted : (a b : Bool) (l : Place) (w : ℤ) (o : Bool) → pick a (refused 4) (pick b (refused 5) l) ≡ off w o → (a ≡ false) × (l ≡ off w o)
accepted true b l w o e = let clash : ◌≡◌ {A = ℕ} 0 1 = cc in absurd (let f : ⊥ = omega arith in f)
accepted false true l w o e = let clash : ◌≡◌ {A = ℕ} 0 1 = cc in absurd (let f : ⊥ = omega arith in f)
accepted false false l w o e = (refl, e)

-- of any list and point: an answer Off carries exactly a quarter of the quarter turns
pub located-exact : (xs : List ℤ) (a b w : ℤ) (o : Bool) → located xs a b ≡ off w o → pos 4 *ℤ w ≡ ring_sum (quarter_turns (point a b)) (vertices xs)
unfolding located
located-exact xs a b w o e =
    let m = length xs in
    let (ring, found) = accepted (no_ring m (m / 2)) (some_beyond xs || (beyond a || beyond b)) (located_on (vertices xs) (point a b)) w o e in
    let few = ltb-false (m / 2) 3 (neither_left (ltb (m / 2) 3) _ (neither_right (eqb (m % 2) 1) _ ring)) in
    off-exact (vertices xs) (point a b) w o (length-at-least xs 0 (omega arith)) found
