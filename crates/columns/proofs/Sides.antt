-- A ring in columns whose vertices lie all on one side of a point's row or column is passed over. Assumes nothing.
use Prim.Native.Nat.{ℕ, ◌-◌}
use native.Mathlib.Omega.{arith}
use mathlib.Core.Path.{◌≡◌, sym, ap, subst}
use mathlib.Core.Bool.{false}
use mathlib.Core.List.{List}
use lib.IntN.{ℤ, pos}
use lib.ListN.{length}
use Rattle.ring.specs.declared.Point.{Point}
use Rattle.ring.specs.Columns.{points, IsRing, Beside}
use Rattle.ring.specs.Locate.{off, located_on}
use Rattle.ring.specs.Walk.{Aside}
use Rattle.ring.proofs.Points.{length-points}
use Rattle.ring.proofs.Sides.{by_row, by-column}
use Rattle.ring.proofs.Missed.{missed-ring}

module _ (xs ys : List ℤ) (R : Point) (ring : IsRing xs ys) where
  abbrev last : ℕ
  last = length xs - 1

  all-aside : Aside (points xs ys) R 0 last → located_on (points xs ys) R ≡ off (pos 0) false
  all-aside side =
      let long = length-points xs ys ring.even in
      missed-ring (points xs ys) (omega (arith, long, ring.least)) R (subst (λ k. Aside (points xs ys) R 0 k) (ap (λ n. n - 1) (sym long)) side)

  pub row-misses : Beside ys R.y 0 last → located_on (points xs ys) R ≡ off (pos 0) false
  row-misses b = all-aside (by_row xs ys R 0 last ring.even (omega (arith, ring.least)) b)

  pub column-misses : Beside xs R.x 0 last → located_on (points xs ys) R ≡ off (pos 0) false
  column-misses b = all-aside (by-column xs ys R 0 last ring.even (omega (arith, ring.least)) b)
