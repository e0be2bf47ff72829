-- Whether a number of a list is beyond the grid, by the list's places: each, and four by four. Assumes nothing.
use Prim.Native.Nat.{ℕ, zero, suc, ◌+◌, ◌-◌, ◌≤◌, ◌<◌}
use native.Mathlib.Omega.{arith}
use native.Mathlib.Decide.{dec_lt}
use mathlib.Core.Path.{◌≡◌, refl, sym, ap, ◌∙◌}
use mathlib.Core.Bool.{Bool, true, false, ◌||◌, true≢false}
use mathlib.Core.List.{List, [], ◌∷◌}
use lib.IntN.{ℤ, pos}
use lib.ListN.{length, get_or}
use Rattle.ring.specs.Grid.{beyond, some_beyond}
use Rattle.ring.specs.Walk.{four_beyond}
use Rattle.ring.proofs.Pick.{neither_left, neither_right}
use Rattle.ring.proofs.Search.{Unmet}

abbrev pub beyond_at : List ℤ → ℕ → Bool
beyond_at xs j = beyond (get_or xs j (pos 0))

pub each_within : (xs : List ℤ) → some_beyond xs ≡ false → (j : ℕ) → beyond_at xs j ≡ false
each_within [] e j = refl
each_within (x ∷ xs) e zero = neither_left (beyond x) _ e
each_within (x ∷ xs) e (suc j) = each_within xs (neither_right (beyond x) _ e) j

none-beyond : (xs : List ℤ) → Unmet (beyond_at xs) (length xs) → some_beyond xs ≡ false
none-beyond [] u = refl
none-beyond (x ∷ xs) u = ap (λ (b : Bool). b || some_beyond xs) (u 0 (omega arith)) ∙ none-beyond xs (λ j h. u (suc j) (omega arith))

-- four that pass
four-within : (xs : List ℤ) (i : ℕ) → four_beyond xs i ≡ false → (j : ℕ) → i ≤ j → j < i + 4 → beyond_at xs j ≡ false
four-within xs i e j g h = go (j - i) (omega arith)
  where
    low : (beyond_at xs i || beyond_at xs (i + 1)) ≡ false
    low = neither_left (beyond_at xs i || beyond_at xs (i + 1)) _ e

    high : (beyond_at xs (i + 2) || beyond_at xs (i + 3)) ≡ false
    high = neither_right (beyond_at xs i || beyond_at xs (i + 1)) _ e

    go : (k : ℕ) → j ≡ i + k → beyond_at xs j ≡ false
    go zero s = ap (beyond_at xs) (omega arith) ∙ neither_left (beyond_at xs i) _ low
    go (suc zero) s = ap (beyond_at xs) s ∙ neither_right (beyond_at xs i) _ low
    go (suc (suc zero)) s = ap (beyond_at xs) s ∙ neither_left (beyond_at xs (i + 2)) _ high
    go (suc (suc (suc zero))) s = ap (beyond_at xs) s ∙ neither_right (beyond_at xs (i + 2)) _ high
    go (suc (suc (suc (suc k)))) s = absurd (let f : ⊥ = omega arith in f)

pub four-more : (xs : List ℤ) (i : ℕ) → Unmet (beyond_at xs) i → four_beyond xs i ≡ false → Unmet (beyond_at xs) (i + 4)
four-more xs i u e j h = elim (dec_lt j i) [ yes low ↦ u j low | no high ↦ four-within xs i e j (omega arith) h ]

-- one of four found
pub four-found : (xs : List ℤ) (i : ℕ) → four_beyond xs i ≡ true → some_beyond xs ≡ true
four-found xs i e = go (some_beyond xs) refl
  where
    go : (b : Bool) → some_beyond xs ≡ b → b ≡ true
    go true s = refl
    go false s = let w = each_within xs s in absurd (true≢false (sym e ∙ (λ x. (w i x || w (i + 1) x) || (w (i + 2) x || w (i + 3) x))))

-- the last four, where all before some place among them passed
pub four-all : (xs : List ℤ) (i last : ℕ) → last + 4 ≡ length xs → last ≤ i → Unmet (beyond_at xs) i → four_beyond xs last ≡ some_beyond xs
four-all xs i last size h u = go (four_beyond xs last) refl
  where
    go : (b : Bool) → four_beyond xs last ≡ b → b ≡ some_beyond xs
    go true e = sym (four-found xs last e)
    go false e = sym (none-beyond xs (λ j l. elim (dec_lt j i) [ yes low ↦ u j low | no high ↦ four-within xs last e j (omega arith) (omega (arith, size)) ]))
