-- Counting down the points that a list of lengths leaves: what is left decides as the sum does. Assumes nothing.
use Prim.Native.Nat.{ℕ, zero, suc, ◌+◌, ◌-◌, ◌/◌, ◌%◌, ◌≤◌, ◌<◌}
use native.Mathlib.Decide.{ℕ_discrete}
use native.Mathlib.Numerals.{add-one}
use native.Mathlib.Omega.{arith}
use mathlib.Core.Path.{◌≡◌, refl, sym, ap, ◌∙◌}
use mathlib.Core.Bool.{Bool, true, false, not, ◌||◌, true≢false, or_assoc}
use mathlib.Core.List.{List, [], ◌∷◌}
use lib.Dec.{eqb, ltb}
use lib.ListN.{length, get_or, drop, drop_of_length-le}
use lib.Seq.{drop-cons}
use borrow.Author.Tests.{ltb-true, ltb-false, eq-eqb, ne_eqb}
use Rattle.ring.proofs.Pick.{neither_left, neither_right}
use Rattle.areas.specs.Lengths.{sum, outside, some_outside, no_rings}

-- some length is no ring's, or so many points are not used exactly
abbrev misused : ℕ → List ℕ → Bool
misused left lengths = some_outside lengths || not (eqb (sum lengths) left)

-- after the first i lengths the others decide, by the points left
abbrev pub Left : ℕ → List ℕ → ℕ → ℕ → Type 0
Left points lengths left i = misused left (drop i lengths) ≡ no_rings points lengths

module _ (points : ℕ) (lengths : List ℕ) where
  -- the tests that come first
  abbrev early : Bool
  early = eqb (points % 2) 1 || eqb (length lengths) 0

  first-tests : no_rings points lengths ≡ (early || misused (points / 2) lengths)
  first-tests = sym (or_assoc (eqb (points % 2) 1) (eqb (length lengths) 0) (misused (points / 2) lengths))

  pub left_end : (left i : ℕ) → Left points lengths left i → length lengths ≤ i → (r : Bool) → (0 < left → r ≡ true) → (left ≡ 0 → r ≡ false) → r ≡ no_rings points lengths
  unfolding sum some_outside
  left_end left i l h r some none = go left some none ∙ sym (ap (misused left) (drop_of_length-le lengths {i = i} h)) ∙ l
    where
      go : (m : ℕ) → (0 < m → r ≡ true) → (m ≡ 0 → r ≡ false) → r ≡ misused m []
      go zero some none = none refl
      go (suc m) some none = some (omega arith) ∙ sym (ap not (ne_eqb 0 (suc m) (λ e. let f : ⊥ = omega arith in f)))

-- the next length is read
pub record Read (points : ℕ) (lengths : List ℕ) (left i : ℕ) : Type 0 where
  pub before : Left points lengths left i
  pub low : i < length lengths

module _ {points : ℕ} {lengths : List ℕ} {left i : ℕ} (read : Read points lengths left i) where
  abbrev n : ℕ
  n = get_or lengths i 0

  abbrev rest : List ℕ
  rest = drop (i + 1) lengths

  abbrev late : Bool
  late = outside n || ltb left n

  ahead : misused left (n ∷ rest) ≡ no_rings points lengths
  ahead = ap (misused left) (sym (drop-cons lengths i 0 read.low ∙ (λ j. n ∷ drop (sym (add-one i) j) lengths))) ∙ read.before

  pub left-late : late ≡ true → true ≡ no_rings points lengths
  unfolding sum some_outside
  left-late e = sym (go (outside n) (ltb left n) (some_outside rest) e (λ f. ne_eqb (n + sum rest) left (λ g. let c : ⊥ = omega (arith, g, ltb-true left n f) in c))) ∙ ahead
    where
      go : {t : Bool} (a b s : Bool) → (a || b) ≡ true → (b ≡ true → t ≡ false) → ((a || s) || not t) ≡ true
      go true b s e f = refl
      go false true true e f = refl
      go false true false e f = ap not (f refl)
      go false false s e f = absurd (true≢false (sym e))

  pub left-enough : late ≡ false → n ≤ left
  left-enough e = ltb-false left n (neither_right (outside n) _ e)

  fewer : n ≤ left → eqb (n + sum rest) left ≡ eqb (sum rest) (left - n)
  fewer h = elim (ℕ_discrete (n + sum rest) left) [
    | yes same ↦ eq-eqb (n + sum rest) left same ∙ sym (eq-eqb (sum rest) (left - n) (omega arith))
    | no other ↦ ne_eqb (n + sum rest) left other ∙ sym (ne_eqb (sum rest) (left - n) (λ e. other (omega arith)))
  ]

  pub left-more : late ≡ false → Left points lengths (left - n) (i + 1)
  unfolding sum some_outside
  left-more e = sym (λ j. (neither_left (outside n) _ e j || some_outside rest) || not (fewer (left-enough e) j)) ∙ ahead
