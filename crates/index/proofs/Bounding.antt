-- What is outside of a district's bounds lies beside it. Assumes nothing.
use Prim.Native.Nat.{ℕ, ◌+◌, ◌<◌}
use native.Mathlib.Omega.{arith}
use mathlib.Core.Path.{◌≡◌, refl, sym, ap, ◌∙◌}
use mathlib.Core.Bool.{Bool, true, false, ◌&&◌}
use mathlib.Core.List.{List}
use lib.IntN.{ℤ, pos}
use lib.ListN.{length, get_or}
use lib.Signed.{lt_z, le_z}
use Rattle.ring.specs.Columns.{over, under}
use Rattle.districts.specs.Lists.{first_place, size}
use Rattle.districts.proofs.Lent.{part_length}
use Rattle.index.specs.declared.bounds.Bounds.{Bounds}
use Rattle.index.specs.Axis.{Held, run, From, UpTo, low_of, high_of, within, Bounded, RunBeside}
use Rattle.index.proofs.Order.{not-le, lt-le-trans, le_lt_trans}

module _ (column : List ℤ) (runs : List ℕ) (held : Held column runs) (d : ℕ) (few : d < 64) (used : 0 < size runs d) (v : ℤ) where
  run_long : length (run column runs d) ≡ size runs d
  run_long = part_length column (first_place runs d) (size runs d) (let f = held.fits d few used in let l = held.long in omega arith)

  pub above-all : (l : ℤ) → From (run column runs d) l → lt_z v l ≡ true → RunBeside column runs d v
  above-all l from e = over (λ j k. lt-le-trans v l (get_or (run column runs d) (0 + j) (pos 0)) e (from (0 + j) (omega (arith, run_long))))

  pub below_all : (h : ℤ) → UpTo (run column runs d) h → lt_z h v ≡ true → RunBeside column runs d v
  below_all h to e = under (λ j k. le_lt_trans (get_or (run column runs d) (0 + j) (pos 0)) h v (to (0 + j) (omega (arith, run_long))) e)

  pub outside : (bounds : List Bounds) → Bounded column runs 64 bounds → within bounds d v ≡ false → RunBeside column runs d v
  outside bounds b e = go (le_z (low_of bounds d) v) refl
    where
      go : (t : Bool) → le_z (low_of bounds d) v ≡ t → RunBeside column runs d v
      go false f = above-all (low_of bounds d) (b.low d few used) (not-le (low_of bounds d) v f)
      go true f = below_all (high_of bounds d) (b.high d few used) (not-le v (high_of bounds d) (sym (ap (λ t. t && le_z v (high_of bounds d)) f) ∙ e))
