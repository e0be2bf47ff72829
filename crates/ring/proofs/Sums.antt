-- Ring sums for any weight of an edge: over a shifted sequence, over a list of points, from another first vertex, and backwards. Assumes nothing.
use Prim.Native.Nat.{ℕ, zero, suc, ◌+◌, ◌<◌}
use native.Mathlib.Omega.{arith}
use native.Mathlib.Nat.{add-zero, add-suc}
use mathlib.Core.Path.{◌≡◌, refl, sym, ap, ◌∙◌}
use mathlib.Core.List.{List, [], ◌∷◌, ◌++◌, reverse, append-nil, reverse-cons}
use lib.IntN.{ℤ, pos, neg_ℤ, ◌+ℤ◌, ◌-ℤ◌, +ℤ_assoc, +ℤ_comm, +ℤ_idl, +ℤ_idr, +ℤ_invr, neg_ℤ-+ℤ}
use lib.Signed.{quot_z}
use lib.ListN.{length, get_or}
use Rattle.exact.proofs.Fours.{quarter-neg}
use Rattle.exact.proofs.Poly.{var, add, sub, identity}
use Rattle.ring.specs.declared.Point.{Point}
use Rattle.ring.specs.Rings.{at, Weight, Antisymmetric, total, ring_sum}
use Rattle.ring.specs.Turns.{quarter_turns, winding}
use Rattle.ring.proofs.Vertices.{origin, at-within, at-end}
use Rattle.ring.proofs.Quadrants.{turns-reverse}

pub total-split : (f : Weight) (s : ℕ → Point) (j k : ℕ) → total f s (j + k) ≡ total f s j +ℤ total f (λ i. s (j + i)) k
unfolding total
total-split f s j zero = ap (total f s) (add-zero j) ∙ sym (+ℤ_idr (total f s j))
total-split f s j (suc k) = ap (total f s) (add-suc j k) ∙ (λ i. total-split f s j k i +ℤ f (s (j + k)) (s (sym (add-suc j k) i))) ∙ +ℤ_assoc (total f s j) (total f (λ i. s (j + i)) k) (f (s (j + k)) (s (j + suc k)))

-- where each edge weighs what a number of its first end is more than that of its second, only the ends of the sequence count
pub total_falls : (f : Weight) (g : Point → ℤ) (s : ℕ → Point) (k : ℕ) → ((j : ℕ) → j < k → f (s j) (s (suc j)) ≡ g (s j) -ℤ g (s (suc j))) → total f s k ≡ g (s 0) -ℤ g (s k)
unfolding total
total_falls f g s zero h = sym (+ℤ_invr (g (s 0)))
total_falls f g s (suc k) h = (λ i. total_falls f g s k (λ j l. h j (omega arith)) i +ℤ h k (omega arith) i)
    ∙ identity (g (s 0) ∷ g (s k) ∷ g (s (suc k)) ∷ []) (add (sub (var 0) (var 1)) (sub (var 1) (var 2))) (sub (var 0) (var 2)) tt

-- ---- a ring sum by recursion over its list, with no index

-- the weights of the edges from a through the points of the list to z
abbrev pub along : Weight → Point → List Point → Point → ℤ
along f a [] z = f a z
along f a (x ∷ xs) z = f a x +ℤ along f x xs z

pub along-append : (f : Weight) (a y z : Point) (xs ys : List Point) → along f a (xs ++ (y ∷ ys)) z ≡ along f a xs y +ℤ along f y ys z
along-append f a y z [] ys = refl
along-append f a y z (x ∷ xs) ys = ap (λ (w : ℤ). f a x +ℤ w) (along-append f x y z xs ys) ∙ sym (+ℤ_assoc (f a x) (along f x xs y) (along f y ys z))

pub along-reverse : (f : Weight) → Antisymmetric f → (a z : Point) (xs : List Point) → along f z (reverse xs) a ≡ neg_ℤ (along f a xs z)
along-reverse f anti a z [] = anti a z
along-reverse f anti a z (x ∷ xs) = ap (λ (r : List Point). along f z r a) (reverse-cons x xs)
    ∙ along-append f z x a (reverse xs) []
    ∙ (λ i. along-reverse f anti x z xs i +ℤ anti a x i)
    ∙ +ℤ_comm (neg_ℤ (along f x xs z)) (neg_ℤ (f a x))
    ∙ sym (neg_ℤ-+ℤ (f a x) (along f x xs z))

-- the first edge, then those of the rest
total-front : (f : Weight) (s : ℕ → Point) (k : ℕ) → total f s (suc k) ≡ f (s 0) (s 1) +ℤ total f (λ i. s (suc i)) k
unfolding total
total-front f s k = ap (total f s) (sym (one_more k)) ∙ total-split f s 1 k ∙ (λ i. +ℤ_idl (f (s 0) (s 1)) i +ℤ total f (λ j. s (one_more j i)) k)
  where
    one_more : (n : ℕ) → 1 + n ≡ suc n
    one_more n = omega arith

-- a sequence that lists x, then the points of xs, then z
total-along : (f : Weight) (s : ℕ → Point) (x z : Point) (xs : List Point) → ((i : ℕ) → i < suc (length xs) → s i ≡ get_or (x ∷ xs) i origin) → s (suc (length xs)) ≡ z → total f s (suc (length xs)) ≡ along f x xs z
unfolding total
total-along f s x z [] lists ends = +ℤ_idl (f (s 0) (s 1)) ∙ (λ i. f (lists 0 (omega arith) i) (ends i))
total-along f s x z (y ∷ ys) lists ends = total-front f s (suc (length ys))
    ∙ (λ i. f (lists 0 (omega arith) i) (lists 1 (omega arith) i) +ℤ total-along f (λ j. s (suc j)) y z ys (λ j h. lists (suc j) (omega arith)) ends i)

pub ring_sum-along : (f : Weight) (x : Point) (xs : List Point) → ring_sum f (x ∷ xs) ≡ along f x xs x
unfolding ring_sum
ring_sum-along f x xs = total-along f (at (x ∷ xs)) x x xs (at-within (x ∷ xs)) (at-end (x ∷ xs) (omega arith) ∙ at-within (x ∷ xs) 0 (omega arith))

-- ---- the two laws, and what they say of the winding number

-- a ring sum does not depend on the vertex that the list starts with
pub ring_sum-from : (f : Weight) (xs ys : List Point) → ring_sum f (ys ++ xs) ≡ ring_sum f (xs ++ ys)
ring_sum-from f [] ys = ap (ring_sum f) (append-nil ys)
ring_sum-from f (x ∷ xs) [] = ap (ring_sum f) (sym (append-nil (x ∷ xs)))
ring_sum-from f (x ∷ xs) (y ∷ ys) = apart y x ys xs ∙ +ℤ_comm (along f y ys x) (along f x xs y) ∙ sym (apart x y xs ys)
  where
    apart : (x y : Point) (xs ys : List Point) → ring_sum f ((x ∷ xs) ++ (y ∷ ys)) ≡ along f x xs y +ℤ along f y ys x
    apart x y xs ys = ring_sum-along f x (xs ++ (y ∷ ys)) ∙ along-append f x y x xs ys

-- a ring listed backwards has the opposite sum, where an edge and its reverse cancel
pub ring_sum-reverse : (f : Weight) → Antisymmetric f → (P : List Point) → ring_sum f (reverse P) ≡ neg_ℤ (ring_sum f P)
unfolding ring_sum total
ring_sum-reverse f anti [] = refl
ring_sum-reverse f anti (x ∷ xs) = ap (ring_sum f) (reverse-cons x xs) ∙ ring_sum-from f (x ∷ []) (reverse xs) ∙ ring_sum-along f x (reverse xs) ∙ along-reverse f anti x x xs ∙ ap neg_ℤ (sym (ring_sum-along f x xs))

pub winding-from : (R : Point) (xs ys : List Point) → winding (ys ++ xs) R ≡ winding (xs ++ ys) R
unfolding winding
winding-from R xs ys = ap (λ (z : ℤ). quot_z z (pos 4)) (ring_sum-from (quarter_turns R) xs ys)

pub winding-reverse : (R : Point) (P : List Point) → winding (reverse P) R ≡ neg_ℤ (winding P R)
unfolding winding
winding-reverse R P = ap (λ (z : ℤ). quot_z z (pos 4)) (ring_sum-reverse (quarter_turns R) (turns-reverse R) P) ∙ quarter-neg (ring_sum (quarter_turns R) P)
