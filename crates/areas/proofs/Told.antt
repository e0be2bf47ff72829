-- Where a point lies to one ring: on it, or off it with its winding number; and how large that is. Assumes nothing.
use Prim.Native.Nat.{ℕ, zero, suc, ◌*◌, ◌≤◌}
use native.Mathlib.Omega.{arith}
use mathlib.Core.Path.{◌≡◌}
use mathlib.Core.Bool.{Bool, true, false}
use mathlib.Core.List.{List}
use lib.Dec.{ltb}
use lib.IntN.{ℤ, pos, negsuc, nat_abs, ◌-ℤ◌}
use lib.ListN.{length}
use Rattle.exact.specs.Sign.{Sign, plus, nought, minus, sign}
use Rattle.exact.proofs.Bounds.{nat_abs-add, nat_abs-quot}
use Rattle.ring.specs.declared.Point.{Point}
use Rattle.ring.specs.Choices.{pick}
use Rattle.ring.specs.Rings.{at, total, ring_sum}
use Rattle.ring.specs.Turns.{quadrant, determinant, twice, turns_by, quarter_turns, winding, oddly}
use Rattle.ring.specs.Locate.{Touch, Place, on, off, lowest, at_vertex, on_edge, located_on}

-- what the place of a point says: R is on the ring, or off it with the winding number
pub data Told (P : List Point) (R : Point) : Place → Type 0 where
  holds : (t : Touch) → Told P R (on t)
  passed : Told P R (off (winding P R) (oddly (winding P R)))

pub told : (P : List Point) (R : Point) → Told P R (located_on P R)
unfolding located_on
told P R = go (ltb (lowest (at_vertex P R) (length P) 0) (length P)) (ltb (lowest (on_edge P R) (length P) 0) (length P)) _ _
  where
    go : (a b : Bool) (t u : Touch) → Told P R (pick a (on t) (pick b (on u) (off (winding P R) (oddly (winding P R)))))
    go true b t u = holds t
    go false true t u = holds u
    go false false t u = passed

pub on-or-off : (t : Touch) (v : ℤ) (o : Bool) → on t ≡ off v o → ⊥
on-or-off t v o e = let clash : ◌≡◌ {A = ℕ} 0 1 = cc in let f : ⊥ = omega arith in f

pub off-winding : (P : List Point) (R : Point) (v : ℤ) (o : Bool) → located_on P R ≡ off v o → v ≡ winding P R
off-winding P R v o = go (located_on P R) (told P R)
  where
    go : (p : Place) → Told P R p → p ≡ off v o → v ≡ winding P R
    go p (holds t) e = absurd (on-or-off t v o e)
    go p passed e = cc

-- ---- an edge turns by two quarters at most

half-few : (s : Sign) → nat_abs (twice s) ≤ 2
half-few plus = omega arith
half-few nought = omega arith
half-few minus = omega arith

turns-few : (d h : ℤ) → nat_abs h ≤ 2 → nat_abs (turns_by d h) ≤ 2
turns-few (pos zero) h e = omega arith
turns-few (pos (suc zero)) h e = omega arith
turns-few (negsuc (suc (suc k))) h e = omega arith
turns-few (negsuc zero) h e = omega arith
turns-few (pos (suc (suc (suc k)))) h e = omega arith
turns-few (pos (suc (suc zero))) h e = e
turns-few (negsuc (suc zero)) h e = e

quarters-few : (R P Q : Point) → nat_abs (quarter_turns R P Q) ≤ 2
unfolding quarter_turns
quarters-few R P Q = turns-few (pos (quadrant R Q) -ℤ pos (quadrant R P)) (twice (sign (determinant R P Q))) (half-few (sign (determinant R P Q)))

total-few : (R : Point) (s : ℕ → Point) (k : ℕ) → nat_abs (total (quarter_turns R) s k) ≤ k * 2
unfolding total
total-few R s zero = omega arith
total-few R s (suc k) = let rest = total-few R s k in omega (arith, rest, quarters-few R (s k) (s (suc k)), nat_abs-add (total (quarter_turns R) s k) (quarter_turns R (s k) (s (suc k))))

pub winding-few : (P : List Point) (R : Point) → nat_abs (winding P R) ≤ length P * 2
unfolding winding ring_sum
winding-few P R = omega (arith, nat_abs-quot (ring_sum (quarter_turns R) P) (pos 4), total-few R (at P) (length P))
