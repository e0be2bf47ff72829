-- Where the outline's winding number is 1 and each district's 0 or 1, or -1 and each 0 or -1, a report on no edge is answered One of
-- exactly one district. Assumes nothing.
use Prim.Native.Nat.{ℕ, zero, suc, ◌+◌, ◌≤◌, ◌<◌}
use native.Mathlib.Decide.{dec_lt, ℕ_discrete}
use native.Mathlib.Nat.{zero-add}
use native.Mathlib.Omega.{arith}
use mathlib.Core.Path.{◌≡◌, refl, sym, ap, subst, ◌∙◌}
use mathlib.Core.Bool.{Bool, true, false, not, ◌||◌}
use mathlib.Core.List.{List, [], ◌∷◌}
use mathlib.Core.Logic.{◌⊎◌, inl, inr}
use lib.IntN.{ℤ, pos, negsuc, ◌+ℤ◌, +ℤ_idl}
use lib.ListN.{length, get_or}
use Rattle.exact.specs.Sign.{eq_z}
use Rattle.exact.proofs.Parts.{up, down}
use Rattle.ring.specs.declared.Point.{Point}
use Rattle.ring.specs.Grid.{point, beyond}
use Rattle.ring.specs.Choices.{pick, count}
use Rattle.ring.specs.Turns.{quarter_turns}
use Rattle.ring.specs.Locate.{Place, lowest}
use Rattle.ring.proofs.Quadrants.{turns-reverse}
use Rattle.ring.proofs.Search.{lowest-none, lowest-is, lowest-over}
use Rattle.ring.proofs.Settled.{off-ring}
use Rattle.districts.specs.Counts.{sum_to}
use Rattle.districts.specs.Lent.{beginning}
use Rattle.districts.specs.Register.{Slot, unused, ring, Register, slot, in_use}
use Rattle.districts.specs.Answers.{report, one}
use Rattle.districts.proofs.Sums.{sum-zero}
use Rattle.districts.proofs.Counting.{term-most}
use Rattle.refusals.specs.Verdicts.{accept, verdict}
use Rattle.register.specs.Sorting.{rests, winds, rests_at, lies_to, sorted, belongs_to, assigned}
use Rattle.register.proofs.Given.{answer-given, point-taken}
use Rattle.refusals.proofs.Verdicts.{passes, passed-all}
use Rattle.history.specs.Histories.{Call, empty, after}
use Rattle.history.specs.Adding.{sum_over, slot_winding, Clear, ClearOf, SaidOne}
use Rattle.judging.proofs.Told.{used-below}
use Rattle.history.proofs.Balanced.{balanced}
use Rattle.history.proofs.Windings.{windings-add-up}

-- ---- off a ring

-- on no edge of a slot, R is not on its border, and winds about it where its winding number is not 0
no-border : (R : Point) (s : Slot) → Clear R s → rests (lies_to R s) ≡ false
no-border R unused free = refl
no-border R (ring P) free = ap rests (off-ring P R free)

winds-by : (R : Point) (s : Slot) → Clear R s → winds (lies_to R s) ≡ not (eq_z (slot_winding R s) (pos 0))
winds-by R unused free = refl
winds-by R (ring P) free = ap winds (off-ring P R free)

-- ---- counting

pub sum-front : (n : ℕ) (f : ℕ → ℕ) → sum_to (suc n) f ≡ f 0 + sum_to n (λ d. f (suc d))
unfolding sum_to
sum-front zero f = omega arith
sum-front (suc n) f = let front = sum-front n f in omega (arith, front)

-- two different terms of 1 make a sum of 2 or more
two-terms : (n : ℕ) (f : ℕ → ℕ) (i j : ℕ) → i < j → j < n → f i ≡ 1 → f j ≡ 1 → 2 ≤ sum_to n f
unfolding sum_to
two-terms zero f i j h k e g = absurd (let none : ⊥ = omega arith in none)
two-terms (suc n) f i j h k e g = elim (ℕ_discrete j n) [
  | yes last ↦
      let first = term-most f n i (omega (arith, last)) in
      let its : f n ≡ 1 = ap f (sym last) ∙ g in
      omega (arith, first, its, e)
  | no other ↦ let before = two-terms n f i j h (omega (arith, other)) e g in omega (arith, before)
]

-- u so many times over
times : ℕ → ℤ → ℤ
times zero u = pos 0
times (suc n) u = u +ℤ times n u

times-one : (n : ℕ) → times n (pos 1) ≡ pos n
unfolding times
times-one zero = refl
times-one (suc n) = ap (λ z. pos 1 +ℤ z) (times-one n) ∙ ap pos (let e : 1 + n ≡ suc n = omega arith in e)

times-minus : (n : ℕ) → times (suc n) (negsuc 0) ≡ negsuc n
unfolding times
times-minus zero = refl
times-minus (suc n) = ap (λ z. negsuc 0 +ℤ z) (times-minus n) ∙ ap (λ k. negsuc (suc k)) (zero-add n)

-- 1 or -1
abbrev Once : ℤ → Type 0
Once u = (u ≡ pos 1) ⊎ (u ≡ negsuc 0)

-- one is once
once : (u : ℤ) → Once u → (n : ℕ) → times n u ≡ u → n ≡ 1
unfolding times
once u (inl e) n f = ap up (sym (times-one n) ∙ ap (times n) (sym e) ∙ f ∙ e)
once u (inr e) zero f = let clash : ◌≡◌ {A = ℕ} 0 1 = ap down (f ∙ e) in absurd (let none : ⊥ = omega arith in none)
once u (inr e) (suc n) f = ap down (sym (times-minus n) ∙ ap (times (suc n)) (sym e) ∙ f ∙ e)

module _ (w : Slot → ℤ) (u : ℤ) (other : eq_z u (pos 0) ≡ false) where
  abbrev hit : Slot → Bool
  hit s = not (eq_z (w s) (pos 0))

  -- numbers that are 0 or u add up to u for each that is not 0
  sum-times : (l : List Slot) → ((d : ℕ) → (w (get_or l d unused) ≡ pos 0) ⊎ (w (get_or l d unused) ≡ u)) → sum_over w l ≡ times (sum_to (length l) (λ d. count (hit (get_or l d unused)))) u
  unfolding sum_over sum_to times
  sum-times [] each = refl
  sum-times (s ∷ l) each =
      say (sum-times l (λ d. each (suc d))) (each 0) ∙ ap (λ n. times n u) (sym (sum-front (length l) (λ d. count (hit (get_or (s ∷ l) d unused)))))
    where
      rest : ℕ
      rest = sum_to (length l) (λ d. count (hit (get_or l d unused)))

      say : sum_over w l ≡ times rest u → (w s ≡ pos 0) ⊎ (w s ≡ u) → w s +ℤ sum_over w l ≡ times (count (hit s) + rest) u
      say others (inl e) =
          let none : rest ≡ count (hit s) + rest = omega (arith, ap (λ z. count (not (eq_z z (pos 0)))) e) in
          ap (λ z. z +ℤ sum_over w l) e ∙ +ℤ_idl (sum_over w l) ∙ others ∙ ap (λ n. times n u) none
      say others (inr e) =
          let more : suc rest ≡ count (hit s) + rest = omega (arith, ap (λ z. count (not (eq_z z (pos 0)))) e ∙ ap (λ b. count (not b)) other) in
          (λ t. e t +ℤ others t) ∙ ap (λ n. times n u) more

-- ---- the report

unit-other : (u : ℤ) → Once u → eq_z u (pos 0) ≡ false
unit-other u (inl e) = ap (λ z. eq_z z (pos 0)) e
unit-other u (inr e) = ap (λ z. eq_z z (pos 0)) e

-- a winding number that is not 0 needs a ring
winds-in-use : (R : Point) (s : Slot) (u : ℤ) → eq_z u (pos 0) ≡ false → slot_winding R s ≡ u → in_use s ≡ true
winds-in-use R unused u other e = let clash : ◌≡◌ {A = ℕ} 1 0 = ap (λ z. pick (eq_z z (pos 0)) 1 0) e ∙ ap (λ b. pick b 1 0) other in absurd (let none : ⊥ = omega arith in none)
winds-in-use R (ring P) u other e = refl

module _ (g : Register) (r : ℕ) (x y u : ℤ) (full : length g.districts ≡ 64) (sums : sum_over (slot_winding (point x y)) g.districts ≡ slot_winding (point x y) g.outline)
    (unit : Once u) (across : beyond x ≡ false) (up-too : beyond y ≡ false) (free : ClearOf g (point x y))
    (whole : slot_winding (point x y) g.outline ≡ u) (each : (d : ℕ) → (slot_winding (point x y) (slot g d) ≡ pos 0) ⊎ (slot_winding (point x y) (slot g d) ≡ u)) where
  R : Point
  R = point x y

  other : eq_z u (pos 0) ≡ false
  other = unit-other u unit

  about : ℕ → Bool
  about d = winds (lies_to (point x y) (slot g d))

  about-is : (d : ℕ) → about d ≡ not (eq_z (slot_winding (point x y) (slot g d)) (pos 0))
  unfolding about
  about-is d = winds-by (point x y) (slot g d) (free.districts d)

  -- exactly one district
  how-many : sum_to 64 (λ d. count (about d)) ≡ 1
  how-many = once u unit _ (
      (λ t. times (sum_to 64 (λ d. count (about-is d t))) u)
      ∙ ap (λ n. times (sum_to n (λ d. count (not (eq_z (slot_winding (point x y) (slot g d)) (pos 0))))) u) (sym full)
      ∙ sym (sum-times (slot_winding (point x y)) u other g.districts each)
      ∙ sums
      ∙ whole)

  which : ℕ
  which = lowest about 64 0

  below : which < 64
  unfolding which
  below = elim (dec_lt (lowest about 64 0) 64) [
    | yes less ↦ less
    | no more ↦
        let none = sum-zero (λ d. count (about d)) 64 (λ k h. ap count (lowest-over about 64 (omega (arith, more)) k h)) in
        absurd (let f : ⊥ = omega (arith, none, how-many) in f)
  ]

  its : about which ≡ true
  unfolding which
  its = (lowest-is about 64 0 (lowest about 64 0) refl below).0

  -- a district that is wound about has winding number u, and one with winding number u is wound about
  wound : (d : ℕ) → about d ≡ true → slot_winding (point x y) (slot g d) ≡ u
  wound d e = say (each d)
    where
      say : (slot_winding (point x y) (slot g d) ≡ pos 0) ⊎ (slot_winding (point x y) (slot g d) ≡ u) → slot_winding (point x y) (slot g d) ≡ u
      say (inl none) =
          let clash : ◌≡◌ {A = ℕ} 0 1 = ap (λ b. pick b 1 0) (sym (about-is d ∙ ap (λ z. not (eq_z z (pos 0))) none) ∙ e) in
          absurd (let f : ⊥ = omega arith in f)
      say (inr some) = some

  winding-about : (d : ℕ) → slot_winding (point x y) (slot g d) ≡ u → about d ≡ true
  winding-about d e = about-is d ∙ ap (λ z. not (eq_z z (pos 0))) e ∙ ap not other

  alone : (e : ℕ) → slot_winding (point x y) (slot g e) ≡ u → e ≡ which
  alone e f = elim (ℕ_discrete e which) [
    | yes same ↦ same
    | no differ ↦ elim (dec_lt e which) [
      | yes less ↦ absurd (twice e which less below (winding-about e f) its)
      | no more ↦ absurd (twice which e (omega (arith, differ, more)) (subst (λ (n : ℕ). e < n) full (used-below g e (winds-in-use (point x y) (slot g e) u other f))) its (winding-about e f))
    ]
  ]
    where
      twice : (i j : ℕ) → i < j → j < 64 → about i ≡ true → about j ≡ true → ⊥
      twice i j h k p q = let two = two-terms 64 (λ d. count (about d)) i j h k (ap count p) (ap count q) in omega (arith, two, how-many)

  clear : (d : ℕ) → rests (lies_to (point x y) (slot g d)) ≡ false
  clear d = no-border (point x y) (slot g d) (free.districts d)

  -- the report is answered by where its point belongs
  belongs : belongs_to g (point x y) ≡ one which
  unfolding belongs_to about which
  belongs =
      let place : ℕ → Place = λ d. lies_to (point x y) (slot g d) in
      let border = lowest-none (λ d. rests (place d)) 64 0 (λ d least most. clear d) in
      (λ t. sorted (border t) (rests_at (place (border t))) (how-many t) (lowest (λ d. winds (place d)) 64 0))

  begun : verdict (beginning true g) ≡ accept
  begun = passes 1 _ _ refl ∙ passes 2 _ _ (ap not (winds-in-use (point x y) g.outline u other whole)) ∙ passed-all

  answered : SaidOne (assigned true g r x y) g r (point x y) u
  answered = record {
    district = which;
    is = sym (point-taken x y _ (λ t. across t || up-too t) ∙ answer-given true g r x y begun) ∙ ap (report r) belongs;
    only = record { number = below; winds = wound which its; alone = alone };
  }

pub one-district : (cs : List Call) (r : ℕ) (x y u : ℤ) → Once u → beyond x ≡ false → beyond y ≡ false → ClearOf (after empty cs) (point x y)
    → slot_winding (point x y) (after empty cs).outline ≡ u
    → ((d : ℕ) → (slot_winding (point x y) (slot (after empty cs) d) ≡ pos 0) ⊎ (slot_winding (point x y) (slot (after empty cs) d) ≡ u))
    → SaidOne (assigned true (after empty cs) r x y) (after empty cs) r (point x y) u
one-district cs r x y u unit across up-too free whole each =
    answered (after empty cs) r x y u (balanced (quarter_turns (point x y)) (turns-reverse (point x y)) cs).full (windings-add-up cs (point x y) free) unit across up-too free whole each
