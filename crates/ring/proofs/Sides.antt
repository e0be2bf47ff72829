-- Numbers of a column on one side of a point's are vertices on that side. Assumes nothing.
use Prim.Native.Nat.{ℕ, ◌+◌, ◌-◌, ◌≤◌, ◌<◌}
use native.Mathlib.Omega.{arith}
use mathlib.Core.Path.{◌≡◌, refl, sym, ap, ◌∙◌}
use mathlib.Core.Bool.{Bool, true, false, ◌||◌}
use mathlib.Core.List.{List}
use lib.IntN.{ℤ, pos}
use lib.ListN.{length, get_or, take, drop, length-take, length-drop}
use lib.Signed.{lt_z}
use Rattle.ring.specs.declared.Point.{Point}
use Rattle.ring.specs.Columns.{points, Beside, over, under}
use Rattle.ring.specs.Walk.{Aside, north, south, east, west}
use Rattle.std.proofs.lemmas.List.{get_or-take, get_or-drop}
use Rattle.ring.proofs.Points.{point_at}
use Rattle.ring.proofs.Walks.{Tells}

-- numbers on one side of the point's are vertices on that side
module _ (xs ys : List ℤ) (R : Point) (i k : ℕ) (even : length xs ≡ length ys) (within : i + k < length xs) where
  pub by_row : Beside ys R.y i k → Aside (points xs ys) R i k
  by_row (over f) = north (λ j l. ap (λ p. lt_z R.y p.y) (point_at xs ys (i + j) even (omega arith)) ∙ f j l)
  by_row (under f) = south (λ j l. ap (λ p. lt_z p.y R.y) (point_at xs ys (i + j) even (omega arith)) ∙ f j l)

  pub by-column : Beside xs R.x i k → Aside (points xs ys) R i k
  by-column (over f) = east (λ j l. ap (λ p. lt_z R.x p.x) (point_at xs ys (i + j) even (omega arith)) ∙ f j l)
  by-column (under f) = west (λ j l. ap (λ p. lt_z p.x R.x) (point_at xs ys (i + j) even (omega arith)) ∙ f j l)

-- both tests of the k + 1 numbers from place i on
module _ (column : List ℤ) (v : ℤ) (i k : ℕ) (within : i + k < length column) where
  abbrev part : List ℤ
  part = take (i + k + 1 - i) (drop i column)

  part-at : (j : ℕ) → j ≤ k → get_or part j (pos 0) ≡ get_or column (i + j) (pos 0)
  part-at j h = get_or-take (i + k + 1 - i) (drop i column) j (pos 0) (omega arith) ∙ get_or-drop i column j (pos 0)

  pub told-beside : (m : ℕ) → length part ≤ m → (a b : Bool) → Tells a (λ j. lt_z v (get_or part j (pos 0))) m → Tells b (λ j. lt_z (get_or part j (pos 0)) v) m
      → (a || b) ≡ true → Beside column v i k
  told-beside m h true b p q e = over (λ j l. ap (λ x. lt_z v x) (sym (part-at j l)) ∙ p refl j (below_end j l))
    where
      below_end : (j : ℕ) → j ≤ k → j < m
      below_end j l = omega (arith, length-take (i + k + 1 - i) (drop i column), length-drop i column)
  told-beside m h false b p q e = under (λ j l. ap (λ x. lt_z x v) (sym (part-at j l)) ∙ q e j (below_end j l))
    where
      below_end : (j : ℕ) → j ≤ k → j < m
      below_end j l = omega (arith, length-take (i + k + 1 - i) (drop i column), length-drop i column)
