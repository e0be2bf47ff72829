-- The points of two columns: how many, which, their parts, and points that are written. And a list x, y, x, y, .. and the columns that hold the same numbers: the same points, part by part,
-- and the same test of the coordinates. Assumes nothing.
use Prim.Native.Nat.{ℕ, zero, suc, ◌+◌, ◌-◌, ◌≤◌, ◌<◌, min}
use native.Mathlib.Omega.{arith}
use mathlib.Core.Path.{◌≡◌, refl, sym, ap, subst, ◌∙◌}
use mathlib.Core.Bool.{Bool, true, false, ◌||◌}
use mathlib.Core.List.{List, [], ◌∷◌, ◌++◌}
use lib.IntN.{ℤ, pos}
use lib.ListN.{length, get_or, take, drop, set, length-take, length-drop}
use Rattle.ring.specs.Grid.{point, beyond, some_beyond, vertices}
use Rattle.ring.specs.Columns.{points, interleaved, IsRing}
use Rattle.ring.specs.Rings.{at}
use Rattle.ring.specs.Walk.{OnGrid}
use Rattle.ring.proofs.Vertices.{origin, at-within}
use Rattle.ring.proofs.OnGrid.{point-on-grid}
use Rattle.ring.proofs.Within.{each_within}

pub length-points : (xs ys : List ℤ) → length xs ≡ length ys → length (points xs ys) ≡ length xs
unfolding points
length-points [] ys e = refl
length-points (x ∷ xs) [] e = absurd (let f : ⊥ = omega arith in f)
length-points (x ∷ xs) (y ∷ ys) e = ap suc (length-points xs ys (omega arith))

-- as many as both columns have
pub points-long : (n : ℕ) (xs ys : List ℤ) → n ≤ length xs → n ≤ length ys → n ≤ length (points xs ys)
unfolding points
points-long zero xs ys h k = omega arith
points-long (suc n) [] ys h k = absurd (let f : ⊥ = omega arith in f)
points-long (suc n) (x ∷ xs) [] h k = absurd (let f : ⊥ = omega arith in f)
points-long (suc n) (x ∷ xs) (y ∷ ys) h k = let rest : n ≤ length (points xs ys) = points-long n xs ys (omega arith) (omega arith) in omega arith

get-point : (xs ys : List ℤ) (i : ℕ) → length xs ≡ length ys → i < length xs → get_or (points xs ys) i origin ≡ point (get_or xs i (pos 0)) (get_or ys i (pos 0))
unfolding points
get-point [] ys i e h = absurd (let f : ⊥ = omega arith in f)
get-point (x ∷ xs) [] i e h = absurd (let f : ⊥ = omega arith in f)
get-point (x ∷ xs) (y ∷ ys) zero e h = refl
get-point (x ∷ xs) (y ∷ ys) (suc i) e h = get-point xs ys i (omega arith) (omega arith)

-- the vertex at i as the code reads it
pub point_at : (xs ys : List ℤ) (i : ℕ) → length xs ≡ length ys → i < length xs → at (points xs ys) i ≡ point (get_or xs i (pos 0)) (get_or ys i (pos 0))
point_at xs ys i e h = at-within (points xs ys) i (omega (arith, length-points xs ys e)) ∙ get-point xs ys i e h

-- each point of two columns is on the grid
pub column-on-grid : (xs ys : List ℤ) (i : ℕ) → IsRing xs ys → i < length xs → OnGrid (at (points xs ys) i)
column-on-grid xs ys i r h =
    subst OnGrid (sym (point_at xs ys i r.even h)) (point-on-grid (get_or xs i (pos 0)) (get_or ys i (pos 0)) (each_within xs r.grid-x i) (each_within ys r.grid-y i))

no-points : (xs : List ℤ) → points xs [] ≡ []
unfolding points
no-points [] = refl
no-points (x ∷ xs) = refl

pub points-take : (n : ℕ) (xs ys : List ℤ) → take n (points xs ys) ≡ points (take n xs) (take n ys)
unfolding points
points-take zero xs ys = refl
points-take (suc n) [] ys = refl
points-take (suc n) (x ∷ xs) [] = refl
points-take (suc n) (x ∷ xs) (y ∷ ys) = ap (λ P. point x y ∷ P) (points-take n xs ys)

pub points-drop : (n : ℕ) (xs ys : List ℤ) → drop n (points xs ys) ≡ points (drop n xs) (drop n ys)
unfolding points
points-drop zero xs ys = refl
points-drop (suc n) [] ys = refl
points-drop (suc n) (x ∷ xs) [] = sym (no-points (drop n xs))
points-drop (suc n) (x ∷ xs) (y ∷ ys) = points-drop n xs ys

pub points-append : (us vs xs ys : List ℤ) → length us ≡ length vs → points (us ++ xs) (vs ++ ys) ≡ points us vs ++ points xs ys
unfolding points
points-append [] [] xs ys e = refl
points-append [] (b ∷ vs) xs ys e = absurd (let f : ⊥ = omega arith in f)
points-append (a ∷ us) [] xs ys e = absurd (let f : ⊥ = omega arith in f)
points-append (a ∷ us) (b ∷ vs) xs ys e = ap (λ P. point a b ∷ P) (points-append us vs xs ys (omega arith))

-- a point is written by its two numbers
pub points_set : (xs ys : List ℤ) (k : ℕ) (x y : ℤ) → set (points xs ys) k (point x y) ≡ points (set xs k x) (set ys k y)
unfolding points
points_set [] ys k x y = refl
points_set (u ∷ xs) [] zero x y = refl
points_set (u ∷ xs) [] (suc k) x y = refl
points_set (u ∷ xs) (v ∷ ys) zero x y = refl
points_set (u ∷ xs) (v ∷ ys) (suc k) x y = ap (λ P. point u v ∷ P) (points_set xs ys k x y)

pub same-take : (n : ℕ) (xs ys : List ℤ) → length xs ≡ length ys → length (take n xs) ≡ length (take n ys)
same-take n xs ys e = length-take n xs ∙ ap (min n) e ∙ sym (length-take n ys)

pub same_drop : (n : ℕ) (xs ys : List ℤ) → length xs ≡ length ys → length (drop n xs) ≡ length (drop n ys)
same_drop n xs ys e = length-drop n xs ∙ ap (λ m. m - n) e ∙ sym (length-drop n ys)

-- ---- columns and pairs

pub points-are : (xs ys : List ℤ) → vertices (interleaved xs ys) ≡ points xs ys
unfolding vertices points interleaved
points-are [] ys = refl
points-are (x ∷ xs) [] = refl
points-are (x ∷ xs) (y ∷ ys) = ap (λ P. point x y ∷ P) (points-are xs ys)

pub interleaved-length : (xs ys : List ℤ) → length xs ≡ length ys → length (interleaved xs ys) ≡ length xs + length xs
unfolding interleaved
interleaved-length [] ys e = refl
interleaved-length (x ∷ xs) [] e = absurd (let f : ⊥ = omega arith in f)
interleaved-length (x ∷ xs) (y ∷ ys) e = let h : length (interleaved xs ys) ≡ length xs + length xs = interleaved-length xs ys (omega arith) in omega arith

twice-suc : (n : ℕ) → suc n + suc n ≡ suc (suc (n + n))
twice-suc n = omega arith

pub interleaved-take : (n : ℕ) (xs ys : List ℤ) → take (n + n) (interleaved xs ys) ≡ interleaved (take n xs) (take n ys)
unfolding interleaved
interleaved-take zero xs ys = refl
interleaved-take (suc n) [] ys = rw (twice-suc n) refl
interleaved-take (suc n) (x ∷ xs) [] = rw (twice-suc n) refl
interleaved-take (suc n) (x ∷ xs) (y ∷ ys) = rw (twice-suc n) (ap (λ zs. x ∷ y ∷ zs) (interleaved-take n xs ys))

no_second : (xs : List ℤ) → interleaved xs [] ≡ []
unfolding interleaved
no_second [] = refl
no_second (x ∷ xs) = refl

pub interleaved-drop : (n : ℕ) (xs ys : List ℤ) → drop (n + n) (interleaved xs ys) ≡ interleaved (drop n xs) (drop n ys)
unfolding interleaved
interleaved-drop zero xs ys = refl
interleaved-drop (suc n) [] ys = rw (twice-suc n) refl
interleaved-drop (suc n) (x ∷ xs) [] = rw (twice-suc n) (sym (no_second (drop n xs)))
interleaved-drop (suc n) (x ∷ xs) (y ∷ ys) = rw (twice-suc n) (interleaved-drop n xs ys)

or-shuffle : (a b c d : Bool) → (a || (b || (c || d))) ≡ ((a || c) || (b || d))
or-shuffle true b c d = refl
or-shuffle false true true d = refl
or-shuffle false true false d = refl
or-shuffle false false c d = refl

pub interleaved-beyond : (xs ys : List ℤ) → length xs ≡ length ys → some_beyond (interleaved xs ys) ≡ (some_beyond xs || some_beyond ys)
unfolding interleaved
interleaved-beyond [] [] e = refl
interleaved-beyond [] (y ∷ ys) e = absurd (let f : ⊥ = omega arith in f)
interleaved-beyond (x ∷ xs) [] e = absurd (let f : ⊥ = omega arith in f)
interleaved-beyond (x ∷ xs) (y ∷ ys) e = ap (λ (b : Bool). beyond x || (beyond y || b)) (interleaved-beyond xs ys (omega arith)) ∙ or-shuffle (beyond x) (beyond y) (some_beyond xs) (some_beyond ys)
