-- The crossing rule: off the ring its ring sum is the winding number; what the code adds for an edge is what the rule counts; and what an edge counts that has both ends on
-- one side of R. Each law of one edge is one test at all signs that can come together. Assumes nothing.
use Prim.Native.Nat.{ℕ, zero, suc, ◌<◌, ◌≤◌}
use native.Mathlib.Omega.{arith}
use mathlib.Core.Path.{◌≡◌, sym, ap, ◌∙◌, subst}
use mathlib.Core.Bool.{Bool, true, false, not, ◌&&◌, ◌||◌, beq}
use mathlib.Core.List.{List, [], ◌∷◌}
use lib.Dec.{T}
use lib.ListN.{length}
use lib.IntN.{ℤ, pos, negsuc, neg_ℤ, nat_abs, ◌+ℤ◌, ◌-ℤ◌, ◌*ℤ◌, +ℤ_idl, +ℤ_idr, +ℤ_invr}
use lib.Signed.{lt_z, quot_z}
use mir.Facts.{and_yes}
use Rattle.exact.specs.Sign.{Sign, sign, eq_z}
use Rattle.exact.proofs.Signs.{flip, is_plus, is_minus, eq_z-eq, provided, provided-yes, lt-sign, gt-sign}
use Rattle.exact.proofs.Fours.{quarter-times}
use Rattle.exact.proofs.Poly.{var, num, add, sub, mul, identity}
use Rattle.ring.specs.declared.Point.{Point}
use Rattle.ring.specs.Choices.{pick, count}
use Rattle.ring.specs.Rings.{at, Antisymmetric, total, ring_sum}
use Rattle.ring.specs.Turns.{quadrant, determinant, quarter_turns, winding}
use Rattle.ring.specs.Crossings.{below, crossing, steps}
use Rattle.ring.specs.Segment.{same, between, on_segment}
use Rattle.ring.specs.Locate.{on_edge}
use Rattle.ring.proofs.Pick.{neither_left, neither_right}
use Rattle.ring.proofs.Vertices.{at-end}
use Rattle.ring.proofs.Quadrants.{quadrant_by, same_by, on_by, turns_of, across, up, seen_at, seen, quadrant-signs, same-signs, on-signs, turns-signs, every_edge, at_edge, agree-eq, determinant-reverse}

-- ---- the rule by signs

-- what depends on the five signs of an edge
abbrev ByEdge : Type 0 → Type 0
ByEdge A = Sign → Sign → Sign → Sign → Sign → A

abbrev crossing_by : ByEdge ℤ
crossing_by px py qx qy d = pick ((is_minus py && not (is_minus qy)) && is_plus d) (pos 1) (pick ((not (is_minus py) && is_minus qy) && is_minus d) (negsuc 0) (pos 0))

-- 1 where only the first end lies below the row, -1 where only the second does
abbrev fall_by : ByEdge ℤ
fall_by px py qx qy d = pos (count (is_minus py)) -ℤ pos (count (is_minus qy))

pub below-sign : (R P : Point) → below R P ≡ is_minus (up R P)
below-sign R P = gt-sign R.y P.y

pub plus-sign : (d : ℤ) → lt_z (pos 0) d ≡ is_plus (sign d)
plus-sign d = lt-sign (pos 0) d ∙ ap (λ (z : ℤ). is_plus (sign z)) (+ℤ_idr d)

pub minus-sign : (d : ℤ) → lt_z d (pos 0) ≡ is_minus (sign d)
minus-sign d = gt-sign (pos 0) d ∙ ap (λ (z : ℤ). is_minus (sign z)) (+ℤ_idr d)

crossing-signs : (R P Q : Point) → crossing R P Q ≡ seen crossing_by R P Q
unfolding crossing
crossing-signs R P Q i =
    pick ((below-sign R P i && not (below-sign R Q i)) && plus-sign (determinant R P Q) i) (pos 1)
    (pick ((not (below-sign R P i) && below-sign R Q i) && minus-sign (determinant R P Q) i) (negsuc 0) (pos 0))

fall-signs : (R P Q : Point) → pos (count (below R P)) -ℤ pos (count (below R Q)) ≡ seen fall_by R P Q
fall-signs R P Q i = pos (count (below-sign R P i)) -ℤ pos (count (below-sign R Q i))

-- a test at the signs of an edge that does not hold R
abbrev every_off : ByEdge Bool → Bool
every_off f = every_edge (λ px py qx qy d. provided (not (on_by px py qx qy d)) (λ _. f px py qx qy d))

at_off : (f : ByEdge Bool) → T (every_off f) → (R P Q : Point) → on_segment R P Q ≡ false → T (seen f R P Q)
at_off f t R P Q o = provided-yes (not (seen on_by R P Q)) (λ _. seen f R P Q)
    (at_edge (λ px py qx qy d. provided (not (on_by px py qx qy d)) (λ _. f px py qx qy d)) t R P Q)
    (subst (λ (b : Bool). T (not b)) (sym o ∙ on-signs R P Q) tt)

-- two numbers by the signs of an edge that does not hold R
off-equal : (f g : ByEdge ℤ) → T (every_off (λ px py qx qy d. eq_z (f px py qx qy d) (g px py qx qy d))) → (R P Q : Point) → on_segment R P Q ≡ false → seen f R P Q ≡ seen g R P Q
off-equal f g t R P Q o = eq_z-eq (seen f R P Q) (seen g R P Q) (at_off (λ px py qx qy d. eq_z (f px py qx qy d) (g px py qx qy d)) t R P Q o)

-- ---- what the code adds for an edge

abbrev steps_by : ByEdge ℤ
steps_by px py qx qy d = pick (beq (is_minus d) (is_minus qy)) (fall_by px py qx qy d) (pos 0)

pub steps-crossing : (R P Q : Point) → on_segment R P Q ≡ false → steps (determinant R P Q) (below R P) (below R Q) ≡ crossing R P Q
steps-crossing R P Q o = (λ i. pick (beq (minus-sign (determinant R P Q) i) (below-sign R Q i)) (fall-signs R P Q i) (pos 0))
    ∙ off-equal steps_by crossing_by tt R P Q o
    ∙ sym (crossing-signs R P Q)

pub marks-few : (s t : Bool) → nat_abs (pos (count s) -ℤ pos (count t)) ≤ 1
marks-few true true = omega arith
marks-few true false = omega arith
marks-few false true = omega arith
marks-few false false = omega arith

-- of two marks, if they count
pub counted-few : (b s t : Bool) → nat_abs (pick b (pos (count s) -ℤ pos (count t)) (pos 0)) ≤ 1
counted-few true s t = marks-few s t
counted-few false s t = omega arith

pub determinant-off : (R P Q : Point) → eq_z (determinant R P Q) (pos 0) ≡ false → on_segment R P Q ≡ false
unfolding on_segment
determinant-off R P Q e = ap (λ (b : Bool). b && (between R.x P.x Q.x && between R.y P.y Q.y)) e

-- ---- an edge that does not hold R, and its ends

pub end-off : (R P Q : Point) → on_segment R P Q ≡ false → (same R P ≡ false) × (same R Q ≡ false)
end-off R P Q o = (neither_left (same R P) (same R Q) ends, neither_right (same R P) (same R Q) ends)
  where
    ends : (same R P || same R Q) ≡ false
    ends = (λ i. same-signs R P i || same-signs R Q i)
        ∙ agree-eq (seen_at same_by R P || seen_at same_by R Q) false (at_off (λ px py qx qy d. beq (same_by px py || same_by qx qy) false) tt R P Q o)

-- ---- an edge with both ends on one side of R

-- where both ends pass a test of their signs, the edge does not hold R and counts g
aside : (side : Sign → Sign → Bool) (g : ByEdge ℤ) → T (every_edge (λ px py qx qy d. provided (side px py && side qx qy) (λ _. beq (on_by px py qx qy d) false && eq_z (crossing_by px py qx qy d) (g px py qx qy d)))) → (R P Q : Point) → seen_at side R P ≡ true → seen_at side R Q ≡ true → (on_segment R P Q ≡ false) × (crossing R P Q ≡ seen g R P Q)
aside side g t R P Q p q = (on-signs R P Q ∙ agree-eq (seen on_by R P Q) false told.0, crossing-signs R P Q ∙ eq_z-eq (seen crossing_by R P Q) (seen g R P Q) told.1)
  where
    told : T (beq (seen on_by R P Q) false) × T (eq_z (seen crossing_by R P Q) (seen g R P Q))
    told = and_yes (beq (seen on_by R P Q) false) (eq_z (seen crossing_by R P Q) (seen g R P Q))
        (provided-yes (seen_at side R P && seen_at side R Q) (λ _. beq (seen on_by R P Q) false && eq_z (seen crossing_by R P Q) (seen g R P Q))
        (at_edge (λ px py qx qy d. provided (side px py && side qx qy) (λ _. beq (on_by px py qx qy d) false && eq_z (crossing_by px py qx qy d) (g px py qx qy d))) t R P Q)
        (subst T (sym (λ i. p i && q i)) tt))

abbrev nothing_by : ByEdge ℤ
nothing_by px py qx qy d = pos 0

pub above-row : (R P Q : Point) → lt_z R.y P.y ≡ true → lt_z R.y Q.y ≡ true → (on_segment R P Q ≡ false) × (crossing R P Q ≡ pos 0)
above-row R P Q p q = aside (λ x y. is_plus y) nothing_by tt R P Q (sym (lt-sign R.y P.y) ∙ p) (sym (lt-sign R.y Q.y) ∙ q)

pub below_row : (R P Q : Point) → lt_z P.y R.y ≡ true → lt_z Q.y R.y ≡ true → (on_segment R P Q ≡ false) × (crossing R P Q ≡ pos 0)
below_row R P Q p q = aside (λ x y. is_minus y) nothing_by tt R P Q (sym (gt-sign R.y P.y) ∙ p) (sym (gt-sign R.y Q.y) ∙ q)

pub west-of : (R P Q : Point) → lt_z P.x R.x ≡ true → lt_z Q.x R.x ≡ true → (on_segment R P Q ≡ false) × (crossing R P Q ≡ pos 0)
west-of R P Q p q = aside (λ x y. is_minus x) nothing_by tt R P Q (sym (gt-sign R.x P.x) ∙ p) (sym (gt-sign R.x Q.x) ∙ q)

pub east-of : (R P Q : Point) → lt_z R.x P.x ≡ true → lt_z R.x Q.x ≡ true → (on_segment R P Q ≡ false) × (crossing R P Q ≡ pos (count (below R P)) -ℤ pos (count (below R Q)))
east-of R P Q p q =
    let (o, c) = aside (λ x y. is_plus x) fall_by tt R P Q (sym (lt-sign R.x P.x) ∙ p) (sym (lt-sign R.x Q.x) ∙ q) in
    (o, c ∙ sym (fall-signs R P Q))

-- ---- the reverse of an edge counts the other way, also where the edge holds R

pub crossing-reverse : (R : Point) → Antisymmetric (crossing R)
crossing-reverse R P Q = crossing-signs R Q P
    ∙ ap (crossing_by (across R Q) (up R Q) (across R P) (up R P)) (determinant-reverse R P Q)
    ∙ eq_z-eq (seen reverse_by R P Q) (neg_ℤ (seen crossing_by R P Q)) (at_edge (λ px py qx qy d. eq_z (reverse_by px py qx qy d) (neg_ℤ (crossing_by px py qx qy d))) tt R P Q)
    ∙ ap neg_ℤ (sym (crossing-signs R P Q))
  where
    reverse_by : ByEdge ℤ
    reverse_by px py qx qy d = crossing_by qx qy px py (flip d)

-- ---- the winding number

abbrev whole_by : ByEdge ℤ
whole_by px py qx qy d = pos 4 *ℤ crossing_by px py qx qy d +ℤ (pos (quadrant_by qx qy) -ℤ pos (quadrant_by px py))

-- an edge that does not hold R turns from the quadrant of its first end to that of its second, and a whole turn for each crossing
pub turns-crossing : (R P Q : Point) → on_segment R P Q ≡ false → quarter_turns R P Q ≡ pos 4 *ℤ crossing R P Q +ℤ (pos (quadrant R Q) -ℤ pos (quadrant R P))
turns-crossing R P Q o = turns-signs R P Q
    ∙ off-equal turns_of whole_by tt R P Q o
    ∙ (λ i. pos 4 *ℤ sym (crossing-signs R P Q) i +ℤ (pos (sym (quadrant-signs R Q) i) -ℤ pos (sym (quadrant-signs R P) i)))

pub turns-crossings : (P : List Point) (R : Point) (k : ℕ) → ((i : ℕ) → i < k → on_edge P R i ≡ false) → total (quarter_turns R) (at P) k ≡ pos 4 *ℤ total (crossing R) (at P) k +ℤ (pos (quadrant R (at P k)) -ℤ pos (quadrant R (at P 0)))
unfolding total
turns-crossings P R zero free = sym (+ℤ_idl (first -ℤ first) ∙ +ℤ_invr first)
  where
    first : ℤ
    first = pos (quadrant R (at P 0))
turns-crossings P R (suc k) free = (λ i. turns-crossings P R k (λ j h. free j (omega arith)) i +ℤ turns-crossing R (at P k) (at P (suc k)) (free k (omega arith)) i)
    ∙ identity (total (crossing R) (at P) k ∷ crossing R (at P k) (at P (suc k)) ∷ pos (quadrant R (at P 0)) ∷ pos (quadrant R (at P k)) ∷ pos (quadrant R (at P (suc k))) ∷ [])
    (add (add (mul (num (pos 4)) (var 0)) (sub (var 3) (var 2))) (add (mul (num (pos 4)) (var 1)) (sub (var 4) (var 3))))
    (add (mul (num (pos 4)) (add (var 0) (var 1))) (sub (var 4) (var 2))) tt

-- round a whole ring the quadrants cancel
pub crossings-turns : (P : List Point) (R : Point) → 0 < length P → ((i : ℕ) → i < length P → on_edge P R i ≡ false) → ring_sum (quarter_turns R) P ≡ pos 4 *ℤ ring_sum (crossing R) P
unfolding ring_sum
crossings-turns P R some free = turns-crossings P R (length P) free
    ∙ ap (λ (z : ℤ). pos 4 *ℤ ring_sum (crossing R) P +ℤ z) (ap (λ (E : Point). pos (quadrant R E) -ℤ pos (quadrant R (at P 0))) (at-end P some) ∙ +ℤ_invr (pos (quadrant R (at P 0))))
    ∙ +ℤ_idr (pos 4 *ℤ ring_sum (crossing R) P)

pub crossings-winding : (P : List Point) (R : Point) → 0 < length P → ((i : ℕ) → i < length P → on_edge P R i ≡ false) → ring_sum (crossing R) P ≡ winding P R
unfolding winding
crossings-winding P R some free = sym (ap (λ (z : ℤ). quot_z z (pos 4)) (crossings-turns P R some free) ∙ quarter-times (ring_sum (crossing R) P))
