-- A sum over the numbers below a bound of which one term is raised. Assumes nothing.
use Prim.Native.Nat.{ℕ, zero, suc, ◌+◌, ◌≤◌, ◌<◌}
use native.Mathlib.Decide.{ℕ_discrete}
use native.Mathlib.Omega.{arith}
use mathlib.Core.Path.{◌≡◌, refl, sym, subst}
use Rattle.districts.specs.Counts.{sum_to}

-- g is f but for one more at d
module _ (f g : ℕ → ℕ) (d : ℕ) (up : g d ≡ f d + 1) (same : (k : ℕ) → (k ≡ d → ⊥) → g k ≡ f k) where
  sum-before : (n : ℕ) → n ≤ d → sum_to n g ≡ sum_to n f
  unfolding sum_to
  sum-before zero h = refl
  sum-before (suc n) h = λ i. sum-before n (omega arith) i + same n (λ e. omega arith) i

  -- a sum over d has one more
  pub sum-raised : (n : ℕ) → d < n → sum_to n g ≡ sum_to n f + 1
  unfolding sum_to
  sum-raised zero h = omega arith
  sum-raised (suc n) h = elim (ℕ_discrete n d) [
    | yes here ↦
        let before : sum_to n g ≡ sum_to n f = sum-before n (omega arith) in
        let raised : g n ≡ f n + 1 = subst (λ (k : ℕ). g k ≡ f k + 1) (sym here) up in
        omega arith
    | no other ↦
        let before : sum_to n g ≡ sum_to n f + 1 = sum-raised n (omega arith) in
        let kept : g n ≡ f n = same n other in
        omega arith
  ]
