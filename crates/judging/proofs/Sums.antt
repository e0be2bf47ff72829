-- Splitting and merging keep every ring sum whose weight changes its sign with an edge's direction: the two new paths of a split cancel,
-- and so do the two sides of the border that a merge takes away. Assumes nothing.
use Prim.Native.Nat.{ℕ, zero, suc, ◌+◌, ◌-◌, ◌%◌, ◌≤◌, ◌<◌}
use native.Mathlib.Decide.{dec_lt}
use native.Mathlib.Nat.{mod-eq_of_lt, mod-eq-sub-mod, add-mod_left}
use native.Mathlib.Omega.{arith}
use mathlib.Core.Path.{◌≡◌, refl, sym, ap, subst, ◌∙◌}
use mathlib.Core.Bool.{true}
use mathlib.Core.List.{List, ◌∷◌, ◌++◌, reverse}
use mathlib.Core.Logic.{◌⊎◌, inl, inr}
use lib.Dec.{T}
use lib.IntN.{ℤ, pos, neg_ℤ, ◌+ℤ◌, ◌-ℤ◌, +ℤ_assoc, +ℤ_comm, +ℤ_idl, +ℤ_invl, neg_ℤ-+ℤ, +ℤ-neg_ℤ_cancel}
use lib.ListN.{length, get_or}
use Rattle.exact.specs.Sign.{eq_z}
use Rattle.exact.proofs.Signs.{eq_z-eq}
use Rattle.ring.specs.declared.Point.{Point}
use Rattle.ring.specs.Grid.{point}
use Rattle.ring.specs.Rings.{at, Weight, Antisymmetric, total, ring_sum}
use Rattle.ring.specs.Segment.{same}
use Rattle.ring.proofs.Vertices.{origin}
use Rattle.ring.proofs.Sums.{total-split, along, along-append, along-reverse, ring_sum-along}
use Rattle.districts.proofs.Tests.{both_left, both_right}
use Rattle.districts.proofs.Counting.{all-each}
use Rattle.room.specs.Runs.{run, steps}
use Rattle.judging.specs.Splitting.{piece_one, piece_two}
use Rattle.judging.specs.Merging.{matches, merged}

-- ---- indices round a ring

around : (P : List Point) (k : ℕ) → at P (length P + k) ≡ at P k
unfolding at
around P k = ap (λ j. get_or P j origin) (add-mod_left (length P) k)

-- so many steps from i come to j, or to j one round later
Comes : ℕ → ℕ → ℕ → Type 0
Comes n i j = ((i < j) × (i + steps n i j ≡ j)) ⊎ ((j < i) × (i + steps n i j ≡ n + j))

comes : (n i j : ℕ) → i < n → j < n → (i ≡ j → ⊥) → Comes n i j
unfolding Comes
comes n i j h k other = elim (dec_lt i j) [
  | yes lower ↦
      let by : (j + n - i) % n ≡ (j + n - i - n) % n = mod-eq-sub-mod (omega arith) in
      let less : (j + n - i - n) % n ≡ j + n - i - n = mod-eq_of_lt (omega arith) in
      inl (lower, omega (arith, by, less))
  | no higher ↦
      let above : j < i = omega (arith, other) in
      let less : (j + n - i) % n ≡ j + n - i = mod-eq_of_lt (omega arith) in
      inr (above, omega (arith, less))
]

module _ (n i j : ℕ) (h : i < n) (k : j < n) (other : i ≡ j → ⊥) where
  steps-some : 0 < steps n i j
  unfolding Comes
  steps-some = say (comes n i j h k other)
    where
      say : Comes n i j → 0 < steps n i j
      say (inl e) = omega (arith, e.0, e.1)
      say (inr e) = omega (arith, e.0, e.1)

  -- there and back is once round
  pub steps-round : steps n i j + steps n j i ≡ n
  unfolding Comes
  steps-round = say (comes n i j h k other) (comes n j i k h (λ e. other (sym e)))
    where
      say : Comes n i j → Comes n j i → steps n i j + steps n j i ≡ n
      say (inl e) (inl g) = omega (arith, e.0, g.0)
      say (inl e) (inr g) = omega (arith, e.1, g.1)
      say (inr e) (inl g) = omega (arith, e.1, g.1)
      say (inr e) (inr g) = omega (arith, e.0, g.0)

pub same-is : (P Q : Point) → same P Q ≡ true → P ≡ Q
unfolding same
same-is P Q e =
    let across = both_left (eq_z P.x Q.x) (eq_z P.y Q.y) e in
    let up = both_right (eq_z P.x Q.x) (eq_z P.y Q.y) e in
    λ t. point (eq_z-eq P.x Q.x (subst T (sym across) tt) t) (eq_z-eq P.y Q.y (subst T (sym up) tt) t)

-- what is added and taken away again
cancels : (a b w : ℤ) → (a +ℤ neg_ℤ w) +ℤ (b +ℤ w) ≡ a +ℤ b
cancels a b w = +ℤ_assoc a (neg_ℤ w) (b +ℤ w) ∙ ap (λ z. a +ℤ z) (
    ap (λ z. neg_ℤ w +ℤ z) (+ℤ_comm b w)
    ∙ sym (+ℤ_assoc (neg_ℤ w) w b)
    ∙ ap (λ z. z +ℤ b) (+ℤ_invl w)
    ∙ +ℤ_idl b)

module _ (f : Weight) where
  -- ---- stretches of a ring

  -- the weights of the c edges from vertex i on
  stretch : List Point → ℕ → ℕ → ℤ
  stretch P i c = total f (λ k. at P (i + k)) c

  total-front : (s : ℕ → Point) (c : ℕ) → total f s (suc c) ≡ f (s 0) (s 1) +ℤ total f (λ k. s (suc k)) c
  unfolding total
  total-front s zero = +ℤ_comm (pos 0) (f (s 0) (s 1))
  total-front s (suc c) = ap (λ z. z +ℤ f (s (suc c)) (s (suc (suc c)))) (total-front s c) ∙ +ℤ_assoc (f (s 0) (s 1)) (total f (λ k. s (suc k)) c) (f (s (suc c)) (s (suc (suc c))))

  stretch-add : (P : List Point) (i a b : ℕ) → stretch P i (a + b) ≡ stretch P i a +ℤ stretch P (i + a) b
  unfolding stretch
  stretch-add P i a b = total-split f (λ k. at P (i + k)) a b ∙ (λ t. total f (λ k. at P (i + k)) a +ℤ total f (λ k. at P (place k t)) b)
    where
      place : (k : ℕ) → i + (a + k) ≡ i + a + k
      place k = omega arith

  stretch-around : (P : List Point) (i c : ℕ) → stretch P (length P + i) c ≡ stretch P i c
  unfolding stretch
  stretch-around P i c = λ t. total f (λ k. (ap (at P) (place k) ∙ around P (i + k)) t) c
    where
      place : (k : ℕ) → length P + i + k ≡ length P + (i + k)
      place k = omega arith

  module _ (P : List Point) (i j : ℕ) (h : i < length P) (k : j < length P) (other : i ≡ j → ⊥) where
    at-steps : at P (i + steps (length P) i j) ≡ at P j
    unfolding Comes
    at-steps = say (comes (length P) i j h k other)
      where
        say : Comes (length P) i j → at P (i + steps (length P) i j) ≡ at P j
        say (inl e) = ap (at P) e.1
        say (inr e) = ap (at P) e.1 ∙ around P j

    stretch-steps : (c : ℕ) → stretch P (i + steps (length P) i j) c ≡ stretch P j c
    unfolding Comes
    stretch-steps c = say (comes (length P) i j h k other)
      where
        say : Comes (length P) i j → stretch P (i + steps (length P) i j) c ≡ stretch P j c
        say (inl e) = ap (λ p. stretch P p c) e.1
        say (inr e) = ap (λ p. stretch P p c) e.1 ∙ stretch-around P j c

  -- once round, from any vertex: what stands before the vertex is added at the end
  whole : (P : List Point) (i : ℕ) → stretch P i (length P) ≡ ring_sum f P
  unfolding stretch ring_sum
  whole P i = cancel (total f (at P) i) (stretch P i (length P)) (ring_sum f P) (
      sym (total-split f (at P) i (length P))
      ∙ ap (total f (at P)) swapped
      ∙ total-split f (at P) (length P) i
      ∙ (λ t. total f (at P) (length P) +ℤ total f (λ k. around P k t) i))
    where
      swapped : i + length P ≡ length P + i
      swapped = omega arith

      cancel : (a x y : ℤ) → a +ℤ x ≡ y +ℤ a → x ≡ y
      cancel a x y e = sym (+ℤ-neg_ℤ_cancel x a) ∙ ap (λ z. z -ℤ a) (+ℤ_comm x a ∙ e) ∙ +ℤ-neg_ℤ_cancel y a

  -- ---- runs

  along-run : (P : List Point) (i c : ℕ) (z : Point) → at P (i + suc c) ≡ z → along f (at P i) (run P (suc i) c) z ≡ stretch P i (suc c)
  unfolding run stretch total
  along-run P i zero z e =
      let here : i ≡ i + 0 = omega arith in
      (λ t. f (at P (here t)) (sym e t)) ∙ sym (+ℤ_idl (f (at P (i + 0)) (at P (i + 1))))
  along-run P i (suc c) z e =
      let here : i ≡ i + 0 = omega arith in
      let next : suc i ≡ i + 1 = omega arith in
      let last : suc i + suc c ≡ i + suc (suc c) = omega arith in
      (λ t. f (at P (here t)) (at P (next t)) +ℤ along-run P (suc i) c z (ap (at P) last ∙ e) t)
      ∙ (λ t. f (at P (i + 0)) (at P (i + 1)) +ℤ total f (λ k. at P (place k t)) (suc c))
      ∙ sym (total-front (λ k. at P (i + k)) (suc c))
    where
      place : (k : ℕ) → suc i + k ≡ i + suc k
      place k = omega arith

  run-last : (P : List Point) (i c : ℕ) (Q : List Point) → run P i (suc c) ++ Q ≡ run P i c ++ (at P (i + c) ∷ Q)
  unfolding run
  run-last P i zero Q = let here : i ≡ i + 0 = omega arith in λ t. at P (here t) ∷ Q
  run-last P i (suc c) Q =
      let last : suc i + c ≡ i + suc c = omega arith in
      ap (λ l. at P i ∷ l) (run-last P (suc i) c Q ∙ (λ t. run P (suc i) c ++ (at P (last t) ∷ Q)))

  -- a ring of a stretch and of what leads back from its end to its first vertex
  closed : (P : List Point) (i c : ℕ) (Q : List Point) → 0 < c → ring_sum f (run P i (suc c) ++ Q) ≡ stretch P i c +ℤ along f (at P (i + c)) Q (at P i)
  unfolding run
  closed P i zero Q h = absurd (let none : ⊥ = omega arith in none)
  closed P i (suc c) Q h =
      let last : suc i + c ≡ i + suc c = omega arith in
      ring_sum-along f (at P i) (run P (suc i) (suc c) ++ Q)
      ∙ ap (λ l. along f (at P i) l (at P i)) (run-last P (suc i) c Q)
      ∙ along-append f (at P i) (at P (suc i + c)) (at P i) (run P (suc i) c) Q
      ∙ (λ t. along-run P i c (at P (suc i + c)) (ap (at P) (sym last)) t +ℤ along f (at P (last t)) Q (at P i))

  module _ (anti : Antisymmetric f) where
    -- ---- splitting

    pub split-sum : (P W : List Point) (i j : ℕ) → i < length P → j < length P → (i ≡ j → ⊥) → ring_sum f (piece_one P i j W) +ℤ ring_sum f (piece_two P i j W) ≡ ring_sum f P
    split-sum P W i j h k other =
        let from : (j ≡ i → ⊥) = λ e. other (sym e) in
        (λ t. closed P i there (reverse W) (steps-some (length P) i j h k other) t +ℤ closed P j back W (steps-some (length P) j i k h from) t)
        ∙ (λ t. (stretch P i there +ℤ along f (at-steps P i j h k other t) (reverse W) (at P i)) +ℤ (stretch P j back +ℤ along f (at-steps P j i k h from t) W (at P j)))
        ∙ (λ t. (stretch P i there +ℤ along-reverse f anti (at P i) (at P j) W t) +ℤ (stretch P j back +ℤ along f (at P i) W (at P j)))
        ∙ cancels (stretch P i there) (stretch P j back) (along f (at P i) W (at P j))
        ∙ (λ t. stretch P i there +ℤ sym (stretch-steps P i j h k other back) t)
        ∙ sym (stretch-add P i there back)
        ∙ ap (stretch P i) (steps-round (length P) i j h k other)
        ∙ whole P i
      where
        there : ℕ
        there = steps (length P) i j

        back : ℕ
        back = steps (length P) j i

    -- ---- merging

    -- the points of one stretch are those of the other, in the opposite order
    mirror : (s r : ℕ → Point) (k : ℕ) → ((t : ℕ) → t ≤ k → s t ≡ r (k - t)) → total f s k ≡ neg_ℤ (total f r k)
    unfolding total
    mirror s r zero e = refl
    mirror s r (suc k) e =
        let one : suc k - k ≡ 1 = omega arith in
        let none : suc k - suc k ≡ 0 = omega arith in
        (λ t. mirror s (λ m. r (suc m)) k shifted t +ℤ f ((e k (omega arith) ∙ ap r one) t) ((e (suc k) (omega arith) ∙ ap r none) t))
        ∙ ap (λ z. neg_ℤ (total f (λ m. r (suc m)) k) +ℤ z) (anti (r 0) (r 1))
        ∙ +ℤ_comm (neg_ℤ (total f (λ m. r (suc m)) k)) (neg_ℤ (f (r 0) (r 1)))
        ∙ sym (neg_ℤ-+ℤ (f (r 0) (r 1)) (total f (λ m. r (suc m)) k))
        ∙ ap neg_ℤ (sym (total-front r k))
      where
        shifted : (t : ℕ) → t ≤ k → s t ≡ r (suc (k - t))
        shifted t h = let less : suc k - t ≡ suc (k - t) = omega arith in e t (omega arith) ∙ ap r less

    pub merge-sum : (A B : List Point) (a b k : ℕ) → a < length A → b < length B → 1 ≤ k → k < length A → k < length B → matches A a B b k ≡ true
        → ring_sum f (merged A a B b k) ≡ ring_sum f A +ℤ ring_sum f B
    unfolding matches stretch
    merge-sum A B a b k ha hb least ka kb match =
        closed A (a + k) rest-A (run B (suc b) (length B - suc k)) (omega arith)
        ∙ (λ t. stretch A (a + k) rest-A +ℤ along f (begins t) (run B (suc b) (length B - suc k)) (ends t))
        ∙ ap (λ z. stretch A (a + k) rest-A +ℤ z) (along-run B b (length B - suc k) (at B (b + rest-B)) (ap (λ c. at B (b + c)) count) ∙ ap (stretch B b) count)
        ∙ sym (cancels (stretch A (a + k) rest-A) (stretch B b rest-B) border)
        ∙ ap (λ z. z +ℤ (stretch B b rest-B +ℤ border)) (+ℤ_comm (stretch A (a + k) rest-A) (neg_ℤ border))
        ∙ (λ t. (sym opposite t +ℤ stretch A (a + k) rest-A) +ℤ (stretch B b rest-B +ℤ border))
        ∙ (λ t. sym (stretch-add A a k rest-A) t +ℤ sym (stretch-add B b rest-B k) t)
        ∙ (λ t. stretch A a (all-A t) +ℤ stretch B b (all-B t))
        ∙ (λ t. whole A a t +ℤ whole B b t)
      where
        -- the edges of A and of B that stay, and the sum over the border, as B has it
        rest-A : ℕ
        rest-A = length A - k

        rest-B : ℕ
        rest-B = length B - k

        border : ℤ
        border = stretch B (b + rest-B) k

        all-A : k + rest-A ≡ length A
        all-A = omega arith

        all-B : rest-B + k ≡ length B
        all-B = omega arith

        count : suc (length B - suc k) ≡ rest-B
        count = omega arith

        meets : (t : ℕ) → t ≤ k → at A (a + t) ≡ at B (b + rest-B + (k - t))
        meets t h =
            let place : b + length B - t ≡ b + rest-B + (k - t) = omega arith in
            same-is (at A (a + t)) (at B (b + length B - t)) (all-each (λ m. same (at A (a + m)) (at B (b + length B - m))) (suc k) match t (omega arith)) ∙ ap (at B) place

        -- the second run begins after A(a), which is B(b), and ends before A(a+k), which is B(b-k)
        begins : at A (a + k + rest-A) ≡ at B b
        begins =
            let here : a + k + rest-A ≡ length A + a = omega arith in
            let first : a ≡ a + 0 = omega arith in
            let there : b + rest-B + (k - 0) ≡ length B + b = omega arith in
            ap (at A) here ∙ around A a ∙ ap (at A) first ∙ meets 0 (omega arith) ∙ ap (at B) there ∙ around B b

        ends : at A (a + k) ≡ at B (b + rest-B)
        ends = let none : b + rest-B + (k - k) ≡ b + rest-B = omega arith in meets k (omega arith) ∙ ap (at B) none

        opposite : stretch A a k ≡ neg_ℤ border
        opposite = mirror (λ t. at A (a + t)) (λ t. at B (b + rest-B + t)) k meets
