-- What `==` answers of two points is whether they are the same. Assumes nothing.
use mathlib.Core.Path.{◌≡◌, refl, sym, subst}
use mathlib.Core.Bool.{Bool, true, false, ◌&&◌}
use lib.Dec.{T}
use lib.IntN.{ℤ}
use Rattle.std.specs.Ordering.{int_eq}
use Rattle.std.proofs.lemmas.Bool.Decides.{Decides-int_eq, same_from_decides}
use Rattle.std.proofs.Common.{Decides}
use Rattle.exact.specs.Sign.{eq_z}
use Rattle.exact.proofs.Signs.{eq_z-eq, eq_z-refl}
use Rattle.ring.specs.declared.Point.{Point}
use Rattle.ring.specs.Segment.{same}

eq_z-decides : (x y : ℤ) → Decides (eq_z y x) (x ≡ y)
eq_z-decides x y = (λ e. sym (eq_z-eq y x (subst T (sym e) tt)), λ e. passed (eq_z y x) (subst (λ (z : ℤ). T (eq_z y z)) (sym e) (eq_z-refl y)))
  where
    passed : (b : Bool) → T b → b ≡ true
    passed true t = refl
    passed false t = absurd t

int_eq-eq_z : (x y : ℤ) → int_eq x y ≡ eq_z y x
int_eq-eq_z x y = same_from_decides _ _ (Decides-int_eq x y) (eq_z-decides x y)

pub equal-same : (P R : Point) → (int_eq P.x R.x && int_eq P.y R.y) ≡ same R P
unfolding same
equal-same P R i = int_eq-eq_z P.x R.x i && int_eq-eq_z P.y R.y i
