-- A loop over the numbers whose bits a mask has, the lowest first. `left` has the bits of those that are left. Assumes nothing.
use Prim.Native.Nat.{ℕ, ◌+◌, ◌*◌, ◌%◌, ◌^◌, ◌≤◌, ◌<◌}
use native.Mathlib.Decide.{dec_lt, ℕ_discrete}
use native.Mathlib.Omega.{arith}
use mathlib.Core.Path.{◌≡◌, sym, ap, ◌∙◌}
use lib.Bits.{bit_and, and_le_l}
use lib.Count.{count_trailing_zeros}
use mir.Syntax.{w64}
use mir.Val.{Fits}
use Rattle.std.specs.Int.{bit_at, bit_not}
use Rattle.std.proofs.lemmas.Nat.Bits.{bit_at-zero, bit_at-trailing_zeros, bit_at_clear_same, bit_at_clear_other}
use Rattle.ring.specs.Locate.{Place}
use Rattle.register.specs.declared.seen.Seen.{Seen}
use Rattle.register.proofs.Sorts.{Quiet, Sorts, sorts-rest}

-- the numbers below `next` were seen, and with those above it that have no bit the point has nothing to do
pub record Turn (place : ℕ → Place) (left : ℕ) (seen : Seen) : Type 0 where
  pub next : ℕ
  pub below : Sorts place next seen
  pub gone : (d : ℕ) → d < next → bit_at left d ≡ 0
  pub none : (d : ℕ) → next ≤ d → d < 64 → bit_at left d ≡ 0 → Quiet (place d)

-- what is left once bit d is cleared
abbrev pub cleared : ℕ → ℕ → ℕ
cleared left d = bit_and left (bit_not w64 (1 * 2 ^ d % 2 ^ 64))

module _ (place : ℕ → Place) (left : ℕ) (seen : Seen) (turn : Turn place left seen) where
  pub all-seen : left ≡ 0 → Sorts place 64 seen
  all-seen z = sorts-rest place 64 turn.next seen (omega arith) turn.below.le turn.below (λ d h k. turn.none d h k (ap (λ n. bit_at n d) z ∙ bit_at-zero d))

  module _ (some : left ≡ 0 → ⊥) (fits : Fits w64 left) where
    abbrev d : ℕ
    d = count_trailing_zeros 64 left

    lowest : (d < 64) × (bit_at left d ≡ 1) × ((e : ℕ) → e < d → bit_at left e ≡ 0)
    lowest = bit_at-trailing_zeros w64 left (omega arith) (omega (arith, fits))

    from-next : turn.next ≤ d
    from-next = elim (dec_lt d turn.next) [ yes h ↦ absurd (let f : ⊥ = omega (arith, lowest.1, turn.gone d h) in f) | no h ↦ omega arith ]

    -- the lowest number left, and what was seen of those below it
    pub lowest-left : (count_trailing_zeros 64 left < 64) × Sorts place (count_trailing_zeros 64 left) seen
    lowest-left = (lowest.0, sorts-rest place d turn.next seen (omega (arith, lowest.0)) from-next turn.below (λ e h k. turn.none e h (omega (arith, k, lowest.0)) (lowest.2 e k)))

    pub next-turn : (after : Seen) → Sorts place (count_trailing_zeros 64 left + 1) after → Turn place (cleared left (count_trailing_zeros 64 left)) after
    next-turn after l = record {
      next = d + 1;
      below = l;
      gone = λ e h. elim (ℕ_discrete e d) [
        | yes same ↦ ap (bit_at (cleared left d)) same ∙ bit_at_clear_same w64 left d lowest.0
        | no other ↦ bit_at_clear_other w64 left d lowest.0 e (omega (arith, lowest.0)) other ∙ lowest.2 e (omega arith)
      ];
      none = λ e h k z. turn.none e (omega (arith, from-next)) k (sym (bit_at_clear_other w64 left d lowest.0 e k (λ (s : e ≡ d). omega arith)) ∙ z);
    }

    pub fewer : cleared left (count_trailing_zeros 64 left) < left
    fewer = elim (ℕ_discrete (cleared left d) left) [
      | yes same ↦ absurd (let f : ⊥ = omega (arith, lowest.1, ap (λ n. bit_at n d) same, bit_at_clear_same w64 left d lowest.0) in f)
      | no other ↦ omega (arith, and_le_l left (bit_not w64 (1 * 2 ^ d % 2 ^ 64)))
    ]
