-- The vertices of a list x, y, x, y, .., and the vertex at an index that wraps round. Assumes nothing.
use Prim.Native.Nat.{ℕ, zero, suc, ◌+◌, ◌*◌, ◌%◌, ◌<◌}
use native.Mathlib.Nat.{mod-eq_of_lt, mod_self, mod-mod}
use native.Mathlib.Omega.{arith}
use mathlib.Core.Path.{◌≡◌, refl, sym, ap, ◌∙◌}
use mathlib.Core.List.{List, [], ◌∷◌}
use lib.IntN.{ℤ, pos}
use lib.ListN.{length, get_or}
use Rattle.ring.specs.declared.Point.{Point}
use Rattle.ring.specs.Grid.{point, vertices}
use Rattle.ring.specs.Rings.{at}

abbrev pub origin : Point
origin = point (pos 0) (pos 0)

pub length-vertices : (xs : List ℤ) (n : ℕ) → length xs ≡ n + n → length (vertices xs) ≡ n
unfolding vertices
length-vertices [] n e = omega arith
length-vertices (x ∷ []) n e = absurd (let f : ⊥ = omega arith in f)
length-vertices (x ∷ y ∷ xs) zero e = absurd (let f : ⊥ = omega arith in f)
length-vertices (x ∷ y ∷ xs) (suc n) e = ap suc (length-vertices xs n (omega arith))

-- vertex i of the list is its pair of numbers at 2i and 2i + 1
pub pair-at : (xs : List ℤ) (i : ℕ) → i + i + 1 < length xs → get_or (vertices xs) i origin ≡ point (get_or xs (i + i) (pos 0)) (get_or xs (suc (i + i)) (pos 0))
unfolding vertices
pair-at [] i h = absurd (let f : ⊥ = omega arith in f)
pair-at (x ∷ []) i h = absurd (let f : ⊥ = omega arith in f)
pair-at (x ∷ y ∷ xs) zero h = refl
pair-at (x ∷ y ∷ xs) (suc i) h =
    let e : suc i + suc i ≡ suc (suc (i + i)) = omega arith in
    rw e (pair-at xs i (omega arith))

pub at-within : (P : List Point) (i : ℕ) → i < length P → at P i ≡ get_or P i origin
unfolding at
at-within P i h = ap (λ k. get_or P k origin) (mod-eq_of_lt h)

-- the index after the last is the first
pub at-end : (P : List Point) → 0 < length P → at P (length P) ≡ at P 0
unfolding at
at-end P h = ap (λ k. get_or P k origin) (mod_self (length P) ∙ sym (mod-eq_of_lt h))

pub length-at-least : (xs : List ℤ) (i : ℕ) → i + i + 1 < length xs → i < length (vertices xs)
unfolding vertices
length-at-least [] i h = absurd (let f : ⊥ = omega arith in f)
length-at-least (x ∷ []) i h = absurd (let f : ⊥ = omega arith in f)
length-at-least (x ∷ y ∷ xs) zero h = omega arith
length-at-least (x ∷ y ∷ xs) (suc i) h =
    let k : i < length (vertices xs) = length-at-least xs i (omega arith) in
    omega arith

pub pair-within : (xs : List ℤ) (i : ℕ) → i < length (vertices xs) → i + i + 1 < length xs
unfolding vertices
pair-within [] i h = absurd (let f : ⊥ = omega arith in f)
pair-within (x ∷ []) i h = absurd (let f : ⊥ = omega arith in f)
pair-within (x ∷ y ∷ xs) zero h = omega arith
pair-within (x ∷ y ∷ xs) (suc i) h =
    let k : i + i + 1 < length xs = pair-within xs i (omega arith) in
    omega arith

-- the vertex at i as the code reads it
pub vertex-at : (xs : List ℤ) (i : ℕ) → i + i + 1 < length xs → at (vertices xs) i ≡ point (get_or xs (2 * i) (pos 0)) (get_or xs (2 * i + 1) (pos 0))
vertex-at xs i h =
    let e : 2 * i ≡ i + i = omega arith in
    let k : 2 * i + 1 ≡ suc (i + i) = omega arith in
    at-within (vertices xs) i (length-at-least xs i h) ∙ pair-at xs i h ∙ rw (k, e)

-- an index and its rest round the ring name the same vertex
pub at_rest : (P : List Point) (n k : ℕ) → length P ≡ n → at P (k % n) ≡ at P k
unfolding at
at_rest P n k e = rw e (ap (λ j. get_or P j origin) (mod-mod k n))
