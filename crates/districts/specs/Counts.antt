-- What is asked of all numbers below a bound: a test, a sum, a list. Assumes nothing.
use Rattle.std.specs.Prelude.{ℕ, zero, suc, ◌+◌, Bool, true, ◌&&◌, List, [], ◌∷◌}

-- the test passes at 0, 1, .., n - 1
unfoldable pub all_to : ℕ → (ℕ → Bool) → Bool
all_to zero p = true
all_to (suc n) p = all_to n p && p n

-- f 0 + f 1 + .. + f (n - 1)
unfoldable pub sum_to : ℕ → (ℕ → ℕ) → ℕ
sum_to zero f = 0
sum_to (suc n) f = sum_to n f + f n

-- f 0, f 1, .., f (n - 1)
unfoldable pub list_to {ℓ} : {A : Type ℓ} → ℕ → (ℕ → A) → List A
list_to zero f = []
list_to (suc n) f = f 0 ∷ list_to n (λ i. f (suc i))
