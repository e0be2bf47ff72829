-- Quadrants, the quarter turns of an edge and R on its segment, as functions of five signs: those of Px - a, Py - b, Qx - a, Qy - b (R is (a, b)) and of the determinant.
-- A law of them is then one test at all signs that can come together, closed by computing. Assumes nothing.
use Prim.Native.Nat.{ℕ, zero, suc, ◌+◌}
use native.Mathlib.Omega.{arith}
use mathlib.Core.Path.{◌≡◌, refl, sym, ap, ◌∙◌, subst}
use mathlib.Core.Bool.{Bool, true, false, not, ◌&&◌, ◌||◌, beq}
use lib.Dec.{T, eqb, eqb→eq, eqb-suc-zero}
use lib.IntN.{ℤ, pos, negsuc, neg_ℤ, ◌-ℤ◌, ◌*ℤ◌, +ℤ_idr}
use Rattle.exact.specs.Sign.{Sign, minus, nought, plus, sign, eq_z}
use Rattle.exact.proofs.Parts.{parts-sub, parts-neg, by_parts}
use Rattle.exact.proofs.Signs.{flip, times, is_plus, is_minus, is_nought, may_differ, every, every-at, provided, provided-yes, sign-mul, sign-sub, sign-turn, lt-sign, gt-sign, le-sign, ge-sign, eq-sign}
use Rattle.ring.specs.declared.Point.{Point}
use Rattle.ring.specs.Choices.{pick, count}
use Rattle.ring.specs.Rings.{Antisymmetric}
use Rattle.ring.specs.Turns.{north_east, north_west, south_west, south_east, quadrant, determinant, twice, turns_by, quarter_turns}
use Rattle.ring.specs.Segment.{same, between, on_segment}

-- ---- the definitions by signs

abbrev pub east_by : Sign → Sign → Bool
east_by x y = is_plus x && not (is_minus y)

abbrev pub north_by : Sign → Sign → Bool
north_by x y = not (is_plus x) && is_plus y

abbrev pub west_by : Sign → Sign → Bool
west_by x y = is_minus x && not (is_plus y)

abbrev pub south_by : Sign → Sign → Bool
south_by x y = not (is_minus x) && is_minus y

abbrev pub quadrant_by : Sign → Sign → ℕ
quadrant_by x y = pick (east_by x y) 0 (pick (north_by x y) 1 (pick (west_by x y) 2 (pick (south_by x y) 3 4)))

abbrev pub same_by : Sign → Sign → Bool
same_by x y = is_nought x && is_nought y

abbrev pub between_by : Sign → Sign → Bool
between_by p q = (not (is_plus p) && not (is_minus q)) || (not (is_plus q) && not (is_minus p))

-- the edge from P to Q: the signs of Px - a, Py - b, Qx - a, Qy - b and of the determinant, in this order
abbrev pub on_by : Sign → Sign → Sign → Sign → Sign → Bool
on_by px py qx qy d = is_nought d && (between_by px qx && between_by py qy)

abbrev pub turns_of : Sign → Sign → Sign → Sign → Sign → ℤ
turns_of px py qx qy d = turns_by (pos (quadrant_by qx qy) -ℤ pos (quadrant_by px py)) (twice d)

-- five signs that can come together: the determinant is the difference of two products
abbrev pub consistent : Sign → Sign → Sign → Sign → Sign → Bool
consistent px py qx qy d = may_differ (times px qy) (times qx py) d

-- ---- each definition is its version by signs

abbrev pub across : Point → Point → Sign
across R P = sign (P.x -ℤ R.x)

abbrev pub up : Point → Point → Sign
up R P = sign (P.y -ℤ R.y)

-- what depends on the signs of a point, or of an edge, at given points
abbrev pub seen_at : {A : Type 0} → (Sign → Sign → A) → Point → Point → A
seen_at f R P = f (across R P) (up R P)

abbrev pub seen : {A : Type 0} → (Sign → Sign → Sign → Sign → Sign → A) → Point → Point → Point → A
seen f R P Q = f (across R P) (up R P) (across R Q) (up R Q) (sign (determinant R P Q))

east-signs : (R P : Point) → north_east R P ≡ seen_at east_by R P
east-signs R P i = lt-sign R.x P.x i && le-sign R.y P.y i

north-signs : (R P : Point) → north_west R P ≡ seen_at north_by R P
north-signs R P i = ge-sign R.x P.x i && lt-sign R.y P.y i

west-signs : (R P : Point) → south_west R P ≡ seen_at west_by R P
west-signs R P i = gt-sign R.x P.x i && ge-sign R.y P.y i

south-signs : (R P : Point) → south_east R P ≡ seen_at south_by R P
south-signs R P i = le-sign R.x P.x i && gt-sign R.y P.y i

pub quadrant-signs : (R P : Point) → quadrant R P ≡ seen_at quadrant_by R P
unfolding quadrant
quadrant-signs R P i = pick (east-signs R P i) 0 (pick (north-signs R P i) 1 (pick (west-signs R P i) 2 (pick (south-signs R P i) 3 4)))

pub same-signs : (R P : Point) → same R P ≡ seen_at same_by R P
unfolding same
same-signs R P i = eq-sign R.x P.x i && eq-sign R.y P.y i

between-signs : (a p q : ℤ) → between a p q ≡ between_by (sign (p -ℤ a)) (sign (q -ℤ a))
between-signs a p q i = (ge-sign a p i && le-sign a q i) || (ge-sign a q i && le-sign a p i)

-- seen from a itself
pub between-seen : (a p q : ℤ) → between (pos 0) (p -ℤ a) (q -ℤ a) ≡ between a p q
between-seen a p q = between-signs (pos 0) (p -ℤ a) (q -ℤ a) ∙ (λ i. between_by (sign (+ℤ_idr (p -ℤ a) i)) (sign (+ℤ_idr (q -ℤ a) i))) ∙ sym (between-signs a p q)

zero-sign : (z : ℤ) → eq_z z (pos 0) ≡ is_nought (sign z)
zero-sign (pos zero) = refl
zero-sign (pos (suc n)) = eqb-suc-zero n
zero-sign (negsuc n) = refl

pub on-signs : (R P Q : Point) → on_segment R P Q ≡ seen on_by R P Q
unfolding on_segment
on-signs R P Q i = zero-sign (determinant R P Q) i && (between-signs R.x P.x Q.x i && between-signs R.y P.y Q.y i)

pub turns-signs : (R P Q : Point) → quarter_turns R P Q ≡ seen turns_of R P Q
unfolding quarter_turns
turns-signs R P Q i = turns_by (pos (quadrant-signs R Q i) -ℤ pos (quadrant-signs R P i)) (twice (sign (determinant R P Q)))

pub signs-consistent : (R P Q : Point) → T (seen consistent R P Q)
unfolding determinant
signs-consistent R P Q =
    subst (λ (s : Sign). T (may_differ s (times (across R Q) (up R P)) (sign (determinant R P Q)))) (sign-mul (P.x -ℤ R.x) (Q.y -ℤ R.y))
    (subst (λ (s : Sign). T (may_differ (sign ((P.x -ℤ R.x) *ℤ (Q.y -ℤ R.y))) s (sign (determinant R P Q)))) (sign-mul (Q.x -ℤ R.x) (P.y -ℤ R.y))
    (sign-sub ((P.x -ℤ R.x) *ℤ (Q.y -ℤ R.y)) ((Q.x -ℤ R.x) *ℤ (P.y -ℤ R.y))))

-- ---- a test at all signs, read off at given points

abbrev pub every_point : (Sign → Sign → Bool) → Bool
every_point f = every (λ x. every (λ y. f x y))

pub point_at : (f : Sign → Sign → Bool) → T (every_point f) → (x y : Sign) → T (f x y)
point_at f t x y = every-at (f x) (every-at (λ x. every (f x)) t x) y

pub at-point : (f : Sign → Sign → Bool) → T (every_point f) → (R P : Point) → T (seen_at f R P)
at-point f t R P = point_at f t (across R P) (up R P)

abbrev pub every_edge : (Sign → Sign → Sign → Sign → Sign → Bool) → Bool
every_edge f = every_point (λ px py. every_point (λ qx qy. every (λ d. provided (consistent px py qx qy d) (λ _. f px py qx qy d))))

pub at_edge : (f : Sign → Sign → Sign → Sign → Sign → Bool) → T (every_edge f) → (R P Q : Point) → T (seen f R P Q)
at_edge f t R P Q = at (across R P) (up R P) (across R Q) (up R Q) (sign (determinant R P Q)) (signs-consistent R P Q)
  where
    at : (px py qx qy d : Sign) → T (consistent px py qx qy d) → T (f px py qx qy d)
    at px py qx qy d = provided-yes (consistent px py qx qy d) (λ _. f px py qx qy d)
        (every-at (λ d. provided (consistent px py qx qy d) (λ _. f px py qx qy d))
        (point_at (λ qx qy. every (λ d. provided (consistent px py qx qy d) (λ _. f px py qx qy d)))
        (point_at (λ px py. every_point (λ qx qy. every (λ d. provided (consistent px py qx qy d) (λ _. f px py qx qy d)))) t px py) qx qy) d)

-- ---- which quadrant

pub agree-eq : (b c : Bool) → T (beq b c) → b ≡ c
agree-eq true true t = refl
agree-eq true false t = absurd t
agree-eq false true t = absurd t
agree-eq false false t = refl

-- R itself is in no quadrant, and only R
pub same-quadrant : (R P : Point) → same R P ≡ eqb (quadrant R P) 4
same-quadrant R P = same-signs R P ∙ agree-eq (seen_at same_by R P) (eqb (seen_at quadrant_by R P) 4) (at-point (λ x y. beq (same_by x y) (eqb (quadrant_by x y) 4)) tt R P) ∙ ap (λ (q : ℕ). eqb q 4) (sym (quadrant-signs R P))

apart : (R P : Point) → same R P ≡ false → T (not (seen_at same_by R P))
apart R P e = subst (λ (b : Bool). T (not b)) (sym e ∙ same-signs R P) tt

abbrev lines_by : Sign → Sign → ℕ
lines_by x y = count (east_by x y) + (count (north_by x y) + (count (west_by x y) + count (south_by x y)))

-- every point but R is in exactly one quadrant: one line of the table holds
pub one_line : (R P : Point) → same R P ≡ false → count (north_east R P) + (count (north_west R P) + (count (south_west R P) + count (south_east R P))) ≡ 1
one_line R P e = (λ i. count (east-signs R P i) + (count (north-signs R P i) + (count (west-signs R P i) + count (south-signs R P i))))
    ∙ eqb→eq (seen_at lines_by R P) 1 (provided-yes (not (seen_at same_by R P)) (λ _. eqb (seen_at lines_by R P) 1) (at-point (λ x y. provided (not (same_by x y)) (λ _. eqb (lines_by x y) 1)) tt R P) (apart R P e))

-- ---- the reverse of an edge turns the other way

twice-flip : (s : Sign) → twice (flip s) ≡ neg_ℤ (twice s)
twice-flip minus = refl
twice-flip nought = refl
twice-flip plus = refl

turns-flip : (d half : ℤ) → turns_by (neg_ℤ d) (neg_ℤ half) ≡ neg_ℤ (turns_by d half)
turns-flip (pos zero) half = refl
turns-flip (pos (suc zero)) half = refl
turns-flip (pos (suc (suc zero))) half = refl
turns-flip (pos (suc (suc (suc k)))) half = refl
turns-flip (negsuc zero) half = refl
turns-flip (negsuc (suc zero)) half = refl
turns-flip (negsuc (suc (suc k))) half = refl

sub-turn : (x y : ℤ) → y -ℤ x ≡ neg_ℤ (x -ℤ y)
sub-turn x y = by_parts (y -ℤ x) (neg_ℤ (x -ℤ y)) (omega (arith, parts-sub y x, parts-sub x y, parts-neg (x -ℤ y)))

pub determinant-reverse : (R P Q : Point) → sign (determinant R Q P) ≡ flip (sign (determinant R P Q))
unfolding determinant
determinant-reverse R P Q = sign-turn ((P.x -ℤ R.x) *ℤ (Q.y -ℤ R.y)) ((Q.x -ℤ R.x) *ℤ (P.y -ℤ R.y))

pub turns-reverse : (R : Point) → Antisymmetric (quarter_turns R)
unfolding quarter_turns
turns-reverse R P Q =
    (λ i. turns_by (sub-turn (pos (quadrant R Q)) (pos (quadrant R P)) i) ((ap twice (determinant-reverse R P Q) ∙ twice-flip (sign (determinant R P Q))) i))
    ∙ turns-flip (pos (quadrant R Q) -ℤ pos (quadrant R P)) (twice (sign (determinant R P Q)))
