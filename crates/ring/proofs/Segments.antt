-- `on_segment` is the closed segment: R is on it exactly if it is an average of its ends with whole weights, not both zero. And a segment of no length holds only its own point. Assumes nothing.
use Prim.Native.Nat.{ℕ, zero, suc, ◌+◌, ◌<◌}
use native.Mathlib.Omega.{arith}
use native.Mathlib.Decide.{dec_lt}
use mathlib.Core.Path.{◌≡◌, refl, sym, ap, ◌∙◌, subst, transport}
use mathlib.Core.Bool.{Bool, true, not, ◌&&◌, beq}
use mathlib.Core.List.{[], ◌∷◌}
use mathlib.Core.Logic.{◌⊎◌, inl, inr}
use lib.Dec.{T}
use lib.IntN.{ℤ, pos, negsuc, neg_ℤ, nat_abs, ◌+ℤ◌, ◌-ℤ◌, ◌*ℤ◌, *ℤ_comm, +ℤ_invr, *ℤ-zero}
use mir.Facts.{and_yes, yes_and, or_yes}
use Rattle.exact.specs.Sign.{Sign, nought, sign}
use Rattle.exact.proofs.Signs.{flip, times, is_plus, is_minus, is_nought, may_differ, eq_s-eq, provided, provided-yes, sign-mul, sign-add, sub-nought, same_test}
use Rattle.exact.proofs.Sums.{one-*ℤ, *ℤ-zero-either}
use Rattle.exact.proofs.Poly.{Expr, var, num, add, mul, neg, sub, identity, follows}
use Rattle.ring.specs.declared.Point.{Point}
use Rattle.ring.specs.Grid.{point}
use Rattle.ring.specs.Turns.{determinant}
use Rattle.ring.specs.Segment.{same, on_segment, Weighs}
use Rattle.ring.proofs.Quadrants.{across, up, between_by, on_by, same_by, on-signs, same-signs, seen, every_point, point_at, at-point, agree-eq}

-- ---- an average of p and q is a exactly if the weighted differences from a cancel

-- s, t, a, p and q are the variables 0 to 4
abbrev sum : Expr
sum = add (mul (var 0) (var 3)) (mul (var 1) (var 4))

abbrev middle : Expr
middle = mul (add (var 0) (var 1)) (var 2)

abbrev differences : Expr
differences = add (mul (var 0) (sub (var 3) (var 2))) (mul (var 1) (sub (var 4) (var 2)))

average-cancels : (s t a p q : ℤ) → s *ℤ p +ℤ t *ℤ q ≡ (s +ℤ t) *ℤ a → s *ℤ (p -ℤ a) +ℤ t *ℤ (q -ℤ a) ≡ pos 0
average-cancels s t a p q e = follows (s ∷ t ∷ a ∷ p ∷ q ∷ []) sum middle (num (pos 1)) differences (num (pos 0)) e tt

cancels-average : (s t a p q : ℤ) → s *ℤ (p -ℤ a) +ℤ t *ℤ (q -ℤ a) ≡ pos 0 → s *ℤ p +ℤ t *ℤ q ≡ (s +ℤ t) *ℤ a
cancels-average s t a p q e = follows (s ∷ t ∷ a ∷ p ∷ q ∷ []) differences (num (pos 0)) (num (pos 1)) sum middle e tt

-- ---- from the weights to the segment

abbrev weights_by : Sign → Sign → Bool
weights_by s t = not (is_minus s) && (not (is_minus t) && not (is_nought s && is_nought t))

weights-signs : (s t : ℕ) → 0 < s + t → T (weights_by (sign (pos s)) (sign (pos t)))
weights-signs zero zero h = absurd (let f : ⊥ = omega arith in f)
weights-signs zero (suc t) h = tt
weights-signs (suc s) zero h = tt
weights-signs (suc s) (suc t) h = tt

abbrev cancel_by : Sign → Sign → Sign → Sign → Bool
cancel_by s t p q = may_differ (times s p) (flip (times t q)) nought

-- two differences that cancel under weights lie on opposite sides, or one of them is zero
opposite : (s t : ℕ) (p q : ℤ) → 0 < s + t → pos s *ℤ p +ℤ pos t *ℤ q ≡ pos 0 → T (between_by (sign p) (sign q))
opposite s t p q h e = at (sign (pos s)) (sign (pos t)) (sign p) (sign q) (weights-signs s t h) (transport (λ i. T (may_differ (sign-mul (pos s) p i) (flip (sign-mul (pos t) q i)) (sign (e i)))) (sign-add (pos s *ℤ p) (pos t *ℤ q)))
  where
    at : (s t p q : Sign) → T (weights_by s t) → T (cancel_by s t p q) → T (between_by p q)
    at s t p q g h = provided-yes (cancel_by s t p q) (λ _. between_by p q)
        (point_at (λ p q. provided (cancel_by s t p q) (λ _. between_by p q))
        (provided-yes (weights_by s t) (λ _. every_point (λ p q. provided (cancel_by s t p q) (λ _. between_by p q)))
        (point_at (λ s t. provided (weights_by s t) (λ _. every_point (λ p q. provided (cancel_by s t p q) (λ _. between_by p q)))) tt s t) g) p q) h

in-line : (s t : ℕ) (p q u v : ℤ) → 0 < s + t → pos s *ℤ p +ℤ pos t *ℤ q ≡ pos 0 → pos s *ℤ u +ℤ pos t *ℤ v ≡ pos 0 → p *ℤ v -ℤ q *ℤ u ≡ pos 0
in-line s t p q u v h e f = either (*ℤ-zero-either (pos s +ℤ pos t) (p *ℤ v -ℤ q *ℤ u) multiple)
  where
    multiple : (pos s +ℤ pos t) *ℤ (p *ℤ v -ℤ q *ℤ u) ≡ pos 0
    multiple = follows (pos s ∷ pos t ∷ p ∷ q ∷ u ∷ v ∷ []) (add (mul (var 0) (var 2)) (mul (var 1) (var 3))) (num (pos 0)) (sub (var 5) (var 4))
        (mul (add (var 0) (var 1)) (sub (mul (var 2) (var 5)) (mul (var 3) (var 4)))) (mul (sub (var 2) (var 3)) (add (mul (var 0) (var 4)) (mul (var 1) (var 5)))) e tt
        ∙ ap (λ (z : ℤ). (p -ℤ q) *ℤ z) f ∙ *ℤ-zero (p -ℤ q)

    either : (pos s +ℤ pos t ≡ pos 0) ⊎ (p *ℤ v -ℤ q *ℤ u ≡ pos 0) → p *ℤ v -ℤ q *ℤ u ≡ pos 0
    either (inl g) = absurd (let w : s + t ≡ 0 = ap nat_abs g in omega arith)
    either (inr g) = g

pub weighs-segment : (R P Q : Point) → Weighs R P Q → on_segment R P Q ≡ true
unfolding determinant
weighs-segment R P Q w = on-signs R P Q ∙ same_test (seen on_by R P Q) true (λ _. tt) (λ _.
    yes_and (is_nought (sign (determinant R P Q))) (between_by (across R P) (across R Q) && between_by (up R P) (up R Q))
    (subst (λ (z : ℤ). T (is_nought (sign z))) (sym (in-line w.s w.t (P.x -ℤ R.x) (Q.x -ℤ R.x) (P.y -ℤ R.y) (Q.y -ℤ R.y) w.some flat steep)) tt)
    (yes_and (between_by (across R P) (across R Q)) (between_by (up R P) (up R Q))
    (opposite w.s w.t (P.x -ℤ R.x) (Q.x -ℤ R.x) w.some flat)
    (opposite w.s w.t (P.y -ℤ R.y) (Q.y -ℤ R.y) w.some steep)))
  where
    flat : pos w.s *ℤ (P.x -ℤ R.x) +ℤ pos w.t *ℤ (Q.x -ℤ R.x) ≡ pos 0
    flat = average-cancels (pos w.s) (pos w.t) R.x P.x Q.x w.across

    steep : pos w.s *ℤ (P.y -ℤ R.y) +ℤ pos w.t *ℤ (Q.y -ℤ R.y) ≡ pos 0
    steep = average-cancels (pos w.s) (pos w.t) R.y P.y Q.y w.up

-- ---- from the segment to the weights

-- the numbers without their signs, where p and q lie on opposite sides: q turned by 1 or -1, and p by the opposite
record Opposed (p q : ℤ) : Type 0 where
  turn : ℤ
  first : pos (nat_abs q) ≡ turn *ℤ q
  second : pos (nat_abs p) ≡ neg_ℤ turn *ℤ p

opposed : (p q : ℤ) → T (between_by (sign p) (sign q)) → Opposed p q
opposed p q h = sides (or_yes (not (is_plus (sign p)) && not (is_minus (sign q))) (not (is_plus (sign q)) && not (is_minus (sign p))) h)
  where
    above : (z : ℤ) → T (not (is_minus (sign z))) → pos (nat_abs z) ≡ pos 1 *ℤ z
    above (pos n) h = sym (one-*ℤ (pos n))
    above (negsuc n) h = absurd h

    below : (z : ℤ) → T (not (is_plus (sign z))) → pos (nat_abs z) ≡ negsuc 0 *ℤ z
    below (pos zero) h = refl
    below (pos (suc n)) h = absurd h
    below (negsuc n) h = sym (one-*ℤ (pos (suc n)))

    sides : T (not (is_plus (sign p)) && not (is_minus (sign q))) ⊎ T (not (is_plus (sign q)) && not (is_minus (sign p))) → Opposed p q
    sides (inl t) = let s = and_yes (not (is_plus (sign p))) (not (is_minus (sign q))) t in record { turn = pos 1; first = above q s.1; second = below p s.0 }
    sides (inr t) = let s = and_yes (not (is_plus (sign q))) (not (is_minus (sign p))) t in record { turn = negsuc 0; first = below q s.0; second = above p s.1 }

-- with each weighing as much as the other is long they cancel, and so do u and v in the same proportion
own-cancel : (p q : ℤ) → Opposed p q → pos (nat_abs q) *ℤ p +ℤ pos (nat_abs p) *ℤ q ≡ pos 0
own-cancel p q o = (λ i. o.first i *ℤ p +ℤ o.second i *ℤ q) ∙ identity (o.turn ∷ p ∷ q ∷ []) (add (mul (mul (var 0) (var 2)) (var 1)) (mul (mul (neg (var 0)) (var 1)) (var 2))) (num (pos 0)) tt

other-cancel : (p q u v : ℤ) → Opposed p q → p *ℤ v ≡ q *ℤ u → pos (nat_abs q) *ℤ u +ℤ pos (nat_abs p) *ℤ v ≡ pos 0
other-cancel p q u v o e = (λ i. o.first i *ℤ u +ℤ o.second i *ℤ v) ∙ follows (o.turn ∷ p ∷ q ∷ u ∷ v ∷ []) (mul (var 1) (var 4)) (mul (var 2) (var 3)) (neg (var 0)) (add (mul (mul (var 0) (var 2)) (var 3)) (mul (mul (neg (var 0)) (var 1)) (var 4))) (num (pos 0)) e tt

-- each end weighs as much as the other is away from R in x, where one of the two is
weighs-across : (R P Q : Point) → (P.x -ℤ R.x) *ℤ (Q.y -ℤ R.y) ≡ (Q.x -ℤ R.x) *ℤ (P.y -ℤ R.y) → T (between_by (across R P) (across R Q)) → 0 < nat_abs (Q.x -ℤ R.x) + nat_abs (P.x -ℤ R.x) → Weighs R P Q
weighs-across R P Q e h some =
    let o : Opposed (P.x -ℤ R.x) (Q.x -ℤ R.x) = opposed (P.x -ℤ R.x) (Q.x -ℤ R.x) h in
    record {
      s = nat_abs (Q.x -ℤ R.x);
      t = nat_abs (P.x -ℤ R.x);
      some = some;
      across = cancels-average (pos (nat_abs (Q.x -ℤ R.x))) (pos (nat_abs (P.x -ℤ R.x))) R.x P.x Q.x (own-cancel (P.x -ℤ R.x) (Q.x -ℤ R.x) o);
      up = cancels-average (pos (nat_abs (Q.x -ℤ R.x))) (pos (nat_abs (P.x -ℤ R.x))) R.y P.y Q.y (other-cancel (P.x -ℤ R.x) (Q.x -ℤ R.x) (P.y -ℤ R.y) (Q.y -ℤ R.y) o e);
    }

-- x and y exchanged
abbrev exchanged : Point → Point
exchanged P = point P.y P.x

weighs-exchanged : (R P Q : Point) → Weighs (exchanged R) (exchanged P) (exchanged Q) → Weighs R P Q
weighs-exchanged R P Q w = record { s = w.s; t = w.t; some = w.some; across = w.up; up = w.across }

-- where P is R, it has all the weight
weighs-first : (R P Q : Point) → P.x -ℤ R.x ≡ pos 0 → P.y -ℤ R.y ≡ pos 0 → Weighs R P Q
weighs-first R P Q e f = record { s = 1; t = 0; some = omega arith; across = only R.x P.x Q.x e; up = only R.y P.y Q.y f }
  where
    only : (a p q : ℤ) → p -ℤ a ≡ pos 0 → pos 1 *ℤ p +ℤ pos 0 *ℤ q ≡ pos 1 *ℤ a
    only a p q e = follows (a ∷ p ∷ q ∷ []) (sub (var 1) (var 0)) (num (pos 0)) (num (pos 1)) (add (mul (num (pos 1)) (var 1)) (mul (num (pos 0)) (var 2))) (mul (num (pos 1)) (var 0)) e tt

nat_abs-zero : (z : ℤ) → nat_abs z ≡ 0 → z ≡ pos 0
nat_abs-zero (pos n) e = ap pos e
nat_abs-zero (negsuc n) e = absurd (let f : ⊥ = omega arith in f)

pub segment-weighs : (R P Q : Point) → on_segment R P Q ≡ true → Weighs R P Q
unfolding determinant
segment-weighs R P Q h = elim (dec_lt 0 (nat_abs (Q.x -ℤ R.x) + nat_abs (P.x -ℤ R.x))) [
  | yes wide ↦ weighs-across R P Q line beside.0 wide
  | no narrow ↦ elim (dec_lt 0 (nat_abs (Q.y -ℤ R.y) + nat_abs (P.y -ℤ R.y))) [
    | yes tall ↦ weighs-exchanged R P Q (weighs-across (exchanged R) (exchanged P) (exchanged Q) (*ℤ_comm (P.y -ℤ R.y) (Q.x -ℤ R.x) ∙ sym line ∙ *ℤ_comm (P.x -ℤ R.x) (Q.y -ℤ R.y)) beside.1 tall)
    | no low ↦ weighs-first R P Q (nat_abs-zero (P.x -ℤ R.x) (omega arith)) (nat_abs-zero (P.y -ℤ R.y) (omega arith))
  ]
]
  where
    told : T (is_nought (sign (determinant R P Q))) × T (between_by (across R P) (across R Q) && between_by (up R P) (up R Q))
    told = and_yes (is_nought (sign (determinant R P Q))) (between_by (across R P) (across R Q) && between_by (up R P) (up R Q)) (subst T (sym h ∙ on-signs R P Q) tt)

    line : (P.x -ℤ R.x) *ℤ (Q.y -ℤ R.y) ≡ (Q.x -ℤ R.x) *ℤ (P.y -ℤ R.y)
    line = sub-nought ((P.x -ℤ R.x) *ℤ (Q.y -ℤ R.y)) ((Q.x -ℤ R.x) *ℤ (P.y -ℤ R.y)) (sym (eq_s-eq nought (sign (determinant R P Q)) told.0))

    beside : T (between_by (across R P) (across R Q)) × T (between_by (up R P) (up R Q))
    beside = and_yes (between_by (across R P) (across R Q)) (between_by (up R P) (up R Q)) told.1

-- ---- a segment of no length

pub dot_holds : (R P : Point) → on_segment R P P ≡ same R P
unfolding determinant
dot_holds R P = on-signs R P P
    ∙ ap (λ (z : ℤ). on_by (across R P) (up R P) (across R P) (up R P) (sign z)) (+ℤ_invr ((P.x -ℤ R.x) *ℤ (P.y -ℤ R.y)))
    ∙ agree-eq (on_by (across R P) (up R P) (across R P) (up R P) nought) (same_by (across R P) (up R P)) (at-point (λ x y. beq (on_by x y x y nought) (same_by x y)) tt R P)
    ∙ sym (same-signs R P)
