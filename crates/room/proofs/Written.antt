-- Points as numbers and back, the vertices of a run and of a path read backwards, and a list of points that is written one after the
-- other to two columns. Assumes nothing.
use Prim.Native.Nat.{ℕ, zero, suc, ◌+◌, ◌-◌, ◌*◌, ◌%◌, ◌≤◌, ◌<◌}
use native.Mathlib.Nat.{zero-add, add-zero, mod-eq_of_lt, mod-add-mod}
use native.Mathlib.Decide.{ℕ_discrete}
use native.Mathlib.Omega.{arith}
use mathlib.Core.Path.{◌≡◌, refl, sym, ap, ◌∙◌}
use mathlib.Core.List.{List, [], ◌∷◌, ◌++◌, append-nil, reverse, reverse-cons}
use lib.IntN.{ℤ, pos}
use lib.ListN.{length, get_or, take, drop, set, length-append, length-drop, length-reverse, drop_of_length-le, get_or-append}
use lib.Seq.{take_all, take_at, drop-cons, drop-drop, get_or_at, length-take-le, paste}
use Rattle.std.proofs.lemmas.List.Edits.{paste_more, paste_all, paste-paste}
use borrow.Rule.Slice.PartMut.{mid_of, put_mid}
use Rattle.ring.specs.declared.Point.{Point}
use Rattle.ring.specs.Grid.{vertices}
use Rattle.ring.specs.Rings.{at}
use Rattle.ring.specs.Columns.{points}
use Rattle.ring.proofs.Points.{points_set, points-append, points-take, points-drop, points-long, length-points}
use Rattle.ring.proofs.Vertices.{origin, at_rest, at-within, length-vertices}
use Rattle.districts.specs.WellFormed.{total}
use Rattle.districts.specs.Lent.{written}
use Rattle.room.specs.Runs.{run}
use Rattle.room.specs.Writing.{numbers_of, behind, entered, Added}

pub numbers-length : (P : List Point) → length (numbers_of P) ≡ length P + length P
unfolding numbers_of
numbers-length [] = refl
numbers-length (p ∷ P) = let e = numbers-length P in omega arith

pub vertices-numbers : (P : List Point) → vertices (numbers_of P) ≡ P
unfolding numbers_of vertices
vertices-numbers [] = refl
vertices-numbers (p ∷ P) = ap (λ Q. p ∷ Q) (vertices-numbers P)

pub numbers-vertices : (xs : List ℤ) (n : ℕ) → length xs ≡ n + n → numbers_of (vertices xs) ≡ xs
unfolding numbers_of vertices
numbers-vertices [] n e = refl
numbers-vertices (x ∷ []) n e = absurd (let f : ⊥ = omega arith in f)
numbers-vertices (x ∷ y ∷ xs) zero e = absurd (let f : ⊥ = omega arith in f)
numbers-vertices (x ∷ y ∷ xs) (suc n) e = ap (λ l. x ∷ y ∷ l) (numbers-vertices xs n (omega arith))

pub run_length : (P : List Point) (i c : ℕ) → length (run P i c) ≡ c
unfolding run
run_length P i zero = refl
run_length P i (suc c) = ap suc (run_length P (suc i) c)

pub run_at : (P : List Point) (i c t : ℕ) → t < c → get_or (run P i c) t origin ≡ at P (i + t)
unfolding run
run_at P i zero t h = absurd (let f : ⊥ = omega arith in f)
run_at P i (suc c) zero h = ap (at P) (sym (add-zero i))
run_at P i (suc c) (suc t) h = run_at P (suc i) c t (omega arith) ∙ ap (at P) (let e : suc i + t ≡ i + suc t = omega arith in e)

run-same : (P : List Point) (i j c : ℕ) → ((t : ℕ) → at P (i + t) ≡ at P (j + t)) → run P i c ≡ run P j c
unfolding run
run-same P i j zero e = refl
run-same P i j (suc c) e = λ t. (ap (at P) (sym (add-zero i)) ∙ e 0 ∙ ap (at P) (add-zero j)) t ∷ run-same P (suc i) (suc j) c shifted t
  where
    shifted : (t : ℕ) → at P (suc i + t) ≡ at P (suc j + t)
    shifted t =
        let here : suc i + t ≡ i + suc t = omega arith in
        let there : j + suc t ≡ suc j + t = omega arith in
        ap (at P) here ∙ e (suc t) ∙ ap (at P) there

-- a run starts at an index or at its rest round the ring
pub run-rest : (P : List Point) (n i c : ℕ) → length P ≡ n → run P (i % n) c ≡ run P i c
unfolding at
run-rest P n i c e = run-same P (i % n) i c (λ t. ap (λ k. get_or P k origin) (ap (λ m. (i % n + t) % m) e ∙ mod-add-mod i n t ∙ ap (λ m. (i + t) % m) (sym e)))

-- a run up to the last vertex
run-last : (P : List Point) (i c : ℕ) → i + c ≡ length P → run P i c ≡ drop i P
unfolding run at
run-last P i zero e = let end : length P ≤ i = omega arith in sym (drop_of_length-le P end)
run-last P i (suc c) e =
    let first : at P i ≡ get_or P i origin = ap (λ k. get_or P k origin) (mod-eq_of_lt (let h : i < length P = omega arith in h)) in
    (λ t. first t ∷ run-last P (suc i) c (omega arith) t) ∙ sym (drop-cons P i origin (omega arith))

-- once round from the first vertex
pub run-all : (P : List Point) (n : ℕ) → length P ≡ n → run P 0 n ≡ P
run-all P n e = run-last P 0 n (omega arith)

pub reverse-at : (W : List Point) (t : ℕ) → t < length W → get_or (reverse W) t origin ≡ get_or W (length W - 1 - t) origin
reverse-at [] t h = absurd (let f : ⊥ = omega arith in f)
reverse-at (p ∷ W) t h = ap (λ l. get_or l t origin) (reverse-cons p W) ∙ say (λ k. reverse-at W t k) (ℕ_discrete t (length W))
  where
    say : (t < length W → get_or (reverse W) t origin ≡ get_or W (length W - 1 - t) origin) → Dec (t ≡ length W) → get_or (reverse W ++ (p ∷ [])) t origin ≡ get_or (p ∷ W) (suc (length W) - 1 - t) origin
    say before (yes e) =
        let last : suc (length W) - 1 - t ≡ 0 = omega arith in
        get_or_at (reverse W) p [] origin t (length-reverse W ∙ sym e) ∙ ap (λ k. get_or (p ∷ W) k origin) (sym last)
    say before (no e) =
        let k : suc (length W) - 1 - t ≡ suc (length W - 1 - t) = omega arith in
        get_or-append (reverse W) (p ∷ []) origin t (omega (arith, length-reverse W))
        ∙ before (omega arith)
        ∙ ap (λ k. get_or (p ∷ W) k origin) (sym k)

-- a piece, point by point, as the code reads it
pub run-vertex : (P : List Point) (n i c k : ℕ) → length P ≡ n → k < c → (p : Point) (r : ℕ) → p ≡ at P r → r ≡ (i + k) % n → p ≡ at (run P i c) k
run-vertex P n i c k long h p r e f = e ∙ ap (at P) f ∙ at_rest P n (i + k) long ∙ sym (run_at P i c k h) ∙ sym (at-within (run P i c) k (omega (arith, run_length P i c)))

pub back-vertex : (W : List Point) (k : ℕ) → k < length W → at W (length W - 1 - k) ≡ at (reverse W) k
back-vertex W k h =
    at-within W (length W - 1 - k) (omega arith)
    ∙ sym (reverse-at W k h)
    ∙ sym (at-within (reverse W) k (omega (arith, length-reverse W)))

-- ---- one after the other

-- a point of a piece is written by its two numbers
pub put-more : (L : List Point) (xs₀ ys₀ xs ys : List ℤ) (place k : ℕ) (p : Point) (us vs : List ℤ) → k < length L → place + length L ≤ length xs₀ → place + length L ≤ length ys₀ → p ≡ at L k
    → us ≡ set xs (place + k) p.x → vs ≡ set ys (place + k) p.y → points xs ys ≡ paste (points xs₀ ys₀) place L k → points us vs ≡ paste (points xs₀ ys₀) place L (k + 1)
put-more L xs₀ ys₀ xs ys place k p us vs h i j e f g w =
    let room : place + length L ≤ length (points xs₀ ys₀) = points-long (place + length L) xs₀ ys₀ i j in
    (λ t. points (f t) (g t))
    ∙ sym (points_set xs ys (place + k) p.x p.y)
    ∙ (λ t. set (w t) (place + k) ((e ∙ at-within L k h) t))
    ∙ paste_more (points xs₀ ys₀) place L k origin (omega arith) h

-- ---- in the tail of a list

pub tail-only : {A : Type 0} (xs us : List A) (a : ℕ) → put_mid a (length xs - a) xs us ≡ take a xs ++ us
tail-only xs us a =
    let long : length (drop a xs) ≤ length xs - a = omega (arith, length-drop a xs) in
    ap (λ l. take a xs ++ (us ++ l)) (drop_of_length-le (drop a xs) long) ∙ ap (λ l. take a xs ++ l) (append-nil us)

pub tail_of : {A : Type 0} (xs : List A) (a : ℕ) → mid_of a (length xs - a) xs ≡ drop a xs
tail_of xs a = take_all (length xs - a) (drop a xs) (omega (arith, length-drop a xs))

-- what is written to the tails of both columns is written behind what stands before them
pub tails-written : (xs ys us vs : List ℤ) (a : ℕ) (P : List Point) → a ≤ length xs → a ≤ length ys
    → points us vs ≡ behind (points (mid_of a (length xs - a) xs) (mid_of a (length ys - a) ys)) 0 P
    → points (put_mid a (length xs - a) xs us) (put_mid a (length ys - a) ys vs) ≡ behind (points xs ys) a P
tails-written xs ys us vs a P h k e =
    let before = points (mid_of a (length xs - a) xs) (mid_of a (length ys - a) ys) in
    let first : points us vs ≡ written P before = e ∙ ap (λ n. P ++ drop n before) (zero-add (length P)) in
    (λ i. points (tail-only xs us a i) (tail-only ys vs a i))
    ∙ points-append (take a xs) (take a ys) us vs (length-take-le a xs h ∙ sym (length-take-le a ys k))
    ∙ (λ i. sym (points-take a xs ys) i ++ (first ∙ (λ j. written P (points (tail_of xs a j) (tail_of ys a j))) ∙ ap (written P) (sym (points-drop a xs ys))) i)
    ∙ ap (λ l. take a (points xs ys) ++ (P ++ l)) (drop-drop (length P) a (points xs ys))

-- two pieces are written behind all rings, and the number takes them
pub added : (store : List Point) (runs : List ℕ) (e : ℕ) (P Q : List Point) (free : ℕ) → free ≡ total runs → free ≤ length store → (m n : ℕ) → m ≡ length P → n ≡ length Q
    → (store' store'' last : List Point) → store' ≡ behind store free P → store'' ≡ behind store' (free + m) Q → last ≡ store'' → (runs' : List ℕ) → runs' ≡ entered runs e free (m + n)
    → Added store runs e (P ++ Q) last runs'
added store runs e P Q free f h m n i j store' store'' last one two same runs' o =
    let first : store' ≡ paste store free P m = one ∙ ap (λ k. take free store ++ (P ++ drop (free + k) store)) (sym i) ∙ sym (paste_all store free P m i) in
    let second : store'' ≡ paste store' (free + m) Q n = two ∙ ap (λ k. take (free + m) store' ++ (Q ++ drop (free + m + k) store')) (sym j) ∙ sym (paste_all store' (free + m) Q n j) in
    let both : m + n ≡ length (P ++ Q) = (λ t. i t + j t) ∙ sym (length-append P Q) in (
      same
          ∙ second
          ∙ ap (λ s. paste s (free + m) Q n) first
          ∙ paste-paste store free P Q m n i j h
          ∙ paste_all store free (P ++ Q) (m + n) both
          ∙ (λ t. take (f t) store ++ ((P ++ Q) ++ drop (f t + both t) store)),
      o ∙ (λ t. entered runs e (f t) (both t)),
    )

-- how long a run with a path behind it is
pub one-length : (P : List Point) (i c : ℕ) (path : List ℤ) (k : ℕ) → length path ≡ k + k → length (run P i c ++ reverse (vertices path)) ≡ c + k
one-length P i c path k e = length-append (run P i c) (reverse (vertices path)) ∙ (λ t. run_length P i c t + (length-reverse (vertices path) ∙ length-vertices path k e) t)

-- ---- a ring as x, y, x, y, ..

-- the numbers of the point at k
number-x : (xs ys : List ℤ) (k : ℕ) → length xs ≡ length ys → k < length xs → get_or (numbers_of (points xs ys)) (k + k) (pos 0) ≡ get_or xs k (pos 0)
unfolding numbers_of points
number-x [] ys k e h = absurd (let f : ⊥ = omega arith in f)
number-x (x ∷ xs) [] k e h = absurd (let f : ⊥ = omega arith in f)
number-x (x ∷ xs) (y ∷ ys) zero e h = refl
number-x (x ∷ xs) (y ∷ ys) (suc k) e h = ap (λ m. get_or (x ∷ y ∷ numbers_of (points xs ys)) m (pos 0)) (let f : suc k + suc k ≡ suc (suc (k + k)) = omega arith in f) ∙ number-x xs ys k (omega arith) (omega arith)

number-y : (xs ys : List ℤ) (k : ℕ) → length xs ≡ length ys → k < length xs → get_or (numbers_of (points xs ys)) (k + k + 1) (pos 0) ≡ get_or ys k (pos 0)
unfolding numbers_of points
number-y [] ys k e h = absurd (let f : ⊥ = omega arith in f)
number-y (x ∷ xs) [] k e h = absurd (let f : ⊥ = omega arith in f)
number-y (x ∷ xs) (y ∷ ys) zero e h = refl
number-y (x ∷ xs) (y ∷ ys) (suc k) e h = ap (λ m. get_or (x ∷ y ∷ numbers_of (points xs ys)) m (pos 0)) (let f : suc k + suc k + 1 ≡ suc (suc (k + k + 1)) = omega arith in f) ∙ number-y xs ys k (omega arith) (omega arith)

-- one number more at the front of a list
front-more : (L to₀ : List ℤ) (i : ℕ) → i < length to₀ → i < length L → set (paste to₀ 0 L i) i (get_or L i (pos 0)) ≡ paste to₀ 0 L (i + 1)
front-more L to₀ i h k = ap (λ m. set (paste to₀ 0 L i) m (get_or L i (pos 0))) (sym (zero-add i)) ∙ paste_more to₀ 0 L i (pos 0) (omega arith) k

-- the two numbers of a point are written
pub pair-more : (xs ys to₀ to : List ℤ) (k : ℕ) → length xs ≡ length ys → k < length xs → length xs + length xs ≤ length to₀ → to ≡ paste to₀ 0 (numbers_of (points xs ys)) (k + k)
    → set (set to (2 * k) (get_or xs k (pos 0))) (2 * k + 1) (get_or ys k (pos 0)) ≡ paste to₀ 0 (numbers_of (points xs ys)) (k + 1 + (k + 1))
pair-more xs ys to₀ to k e h room w =
    let L = numbers_of (points xs ys) in
    let all : length L ≡ length xs + length xs = numbers-length (points xs ys) ∙ (λ i. length-points xs ys e i + length-points xs ys e i) in
    let twice : 2 * k ≡ k + k = omega arith in
    let next : k + k + 1 + 1 ≡ k + 1 + (k + 1) = omega arith in
    (λ i. set (set (w i) (twice i) (sym (number-x xs ys k e h) i)) (twice i + 1) (sym (number-y xs ys k e h) i))
    ∙ ap (λ l. set l (k + k + 1) (get_or L (k + k + 1) (pos 0))) (front-more L to₀ (k + k) (omega (arith, all)) (omega (arith, all)))
    ∙ front-more L to₀ (k + k + 1) (omega (arith, all)) (omega (arith, all))
    ∙ ap (paste to₀ 0 L) next

-- all numbers are written
pub front-all : (L to₀ to : List ℤ) (n : ℕ) → n ≡ length L → to ≡ paste to₀ 0 L n → to ≡ written L to₀
front-all L to₀ to n e w = w ∙ paste_all to₀ 0 L n e ∙ ap (λ k. L ++ drop k to₀) (zero-add n ∙ e)

-- a ring that was written is read back
pub read_back : (P : List Point) (n : ℕ) → length P ≡ n → (to₀ to : List ℤ) → to ≡ written (numbers_of P) to₀ → mid_of 0 (2 * n - 0) to ≡ numbers_of P
read_back P n e to₀ to f = ap (mid_of 0 (2 * n - 0)) f ∙ take_at (numbers_of P) (drop (length (numbers_of P)) to₀) (2 * n - 0) (numbers-length P ∙ omega arith)
