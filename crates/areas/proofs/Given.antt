-- The sizes in front of the first 0: taken one by one, those of an area without lakes, and their sum. Assumes nothing.
use Prim.Native.Nat.{ℕ, zero, suc, ◌+◌, ◌≤◌}
use native.Mathlib.Nat.{zero-add}
use native.Mathlib.Omega.{arith}
use mathlib.Core.Path.{◌≡◌, refl, sym, ap, ◌∙◌}
use mathlib.Core.Bool.{true, true≢false}
use mathlib.Core.List.{List, [], ◌∷◌}
use Rattle.areas.specs.Areas.{given}
use Rattle.areas.specs.Lengths.{sum, all_zero, closed}

pub given-none : (n : ℕ) (ns : List ℕ) → n ≡ 0 → given (n ∷ ns) ≡ []
unfolding given
given-none zero ns e = refl
given-none (suc n) ns e = absurd (let f : ⊥ = omega arith in f)

pub given-some : (n : ℕ) (ns : List ℕ) → (n ≡ 0 → ⊥) → given (n ∷ ns) ≡ n ∷ given ns
unfolding given
given-some zero ns e = absurd (e refl)
given-some (suc n) ns e = refl

-- one ring, whatever stands behind the 0
pub given-one : (n : ℕ) (ns : List ℕ) → 1 ≤ n → given (n ∷ 0 ∷ ns) ≡ n ∷ []
given-one n ns h = given-some n (0 ∷ ns) (λ e. let f : ⊥ = omega arith in f) ∙ ap (λ ms. n ∷ ms) (given-none 0 ns refl)

zeros-sum : (ns : List ℕ) → all_zero ns ≡ true → sum ns ≡ 0
unfolding sum all_zero
zeros-sum [] e = refl
zeros-sum (zero ∷ ns) e = zero-add (sum ns) ∙ zeros-sum ns e
zeros-sum (suc n ∷ ns) e = absurd (true≢false (sym e))

-- where a 0 stands only in front of zeros, nothing is lost
pub given-all : (sizes : List ℕ) → closed sizes ≡ true → sum (given sizes) ≡ sum sizes
unfolding sum given all_zero closed
given-all [] e = refl
given-all (zero ∷ ns) e = sym (zeros-sum (zero ∷ ns) e)
given-all (suc n ∷ ns) e = ap (λ m. suc n + m) (given-all ns e)
