-- What the test of the coordinates tells: every vertex of a list that passes is a point of the grid; and the way from one such point to another. Assumes nothing.
use Prim.Native.Nat.{ℕ, zero, suc, ◌%◌, ◌≤◌}
use native.Mathlib.Omega.{arith}
use mathlib.Core.Path.{◌≡◌, refl, ◌∙◌}
use mathlib.Core.Bool.{false}
use mathlib.Core.List.{List, [], ◌∷◌}
use lib.IntN.{ℤ, pos, negsuc, nat_abs, ◌-ℤ◌, ◌*ℤ◌}
use lib.ListN.{length, get_or}
use mir.Syntax.{w32}
use mir.Val.{SFits, to_z, of_z}
use mir.Facts.{to_z-of_z}
use borrow.Author.Tests.{ltb-false}
use Rattle.exact.specs.declared.Arrow.{Arrow}
use Rattle.exact.specs.Sign.{cross}
use Rattle.exact.proofs.Bounds.{within-fits}
use Rattle.ring.specs.declared.Point.{Point}
use Rattle.ring.specs.Grid.{point, beyond, some_beyond, vertices}
use Rattle.ring.specs.Rings.{at}
use Rattle.ring.specs.Turns.{determinant}
use Rattle.ring.specs.Walk.{head_of, OnGrid, Way}
use Rattle.ring.proofs.Pick.{neither_left, neither_right}
use Rattle.ring.proofs.Vertices.{origin}

pub within-grid : (x : ℤ) → beyond x ≡ false → nat_abs x ≤ 1_000_000_000
within-grid (pos n) e = ltb-false 1_000_000_000 n e
within-grid (negsuc n) e =
    let h : n ≤ 999_999_999 = ltb-false 999_999_999 n (neither_left _ false e) in
    omega arith

pub point-on-grid : (x y : ℤ) → beyond x ≡ false → beyond y ≡ false → OnGrid (point x y)
point-on-grid x y d e = record { across = within-grid x d; up = within-grid y e }

-- a list too short has the origin there
pub vertex-within : (xs : List ℤ) → some_beyond xs ≡ false → (i : ℕ) → (beyond (get_or (vertices xs) i origin).x ≡ false) × (beyond (get_or (vertices xs) i origin).y ≡ false)
unfolding vertices
vertex-within [] e i = (refl, refl)
vertex-within (x ∷ []) e i = (refl, refl)
vertex-within (x ∷ y ∷ xs) e zero = (neither_left (beyond x) _ e, neither_left (beyond y) _ (neither_right (beyond x) _ e))
vertex-within (x ∷ y ∷ xs) e (suc i) = vertex-within xs (neither_right (beyond y) _ (neither_right (beyond x) _ e)) i

pub vertex-on-grid : (xs : List ℤ) → some_beyond xs ≡ false → (i : ℕ) → OnGrid (at (vertices xs) i)
unfolding at
vertex-on-grid xs e i =
    let p = at (vertices xs) i in
    let within = vertex-within xs e (i % length (vertices xs)) in
    point-on-grid p.x p.y within.0 within.1

-- ---- the way from one point of the grid to another, as `exact` tells it

-- the way to (x, y) from (0, 0), as `exact` tells it
pub headed : (x y : ℤ) (a : Arrow) → SFits w32 x → SFits w32 y → (a.x ≡ to_z w32 (of_z w32 x)) × (a.y ≡ to_z w32 (of_z w32 y)) → head_of a ≡ point x y
headed x y a f g e = (λ i. point ((e.0 ∙ to_z-of_z f) i) ((e.1 ∙ to_z-of_z g) i))

-- a coordinate as a number of 32 bits holds it
pub held : (z : ℤ) → nat_abs z ≤ 1_000_000_000 → to_z w32 (of_z w32 z) ≡ z
held z h = to_z-of_z (within-fits w32 z 1_000_000_000 h tt)

pub way-determinant : (R P Q : Point) (a b : Arrow) → Way R P a → Way R Q b → cross a b ≡ determinant R P Q
unfolding determinant
way-determinant R P Q a b p q i = p.x i *ℤ q.y i -ℤ q.x i *ℤ p.y i
