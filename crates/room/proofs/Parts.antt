-- Parts of the store, and registers that differ in one number: the steps that entering and leaving share. Assumes nothing.
use Prim.Native.Nat.{ℕ, zero, suc, ◌+◌, ◌≤◌, ◌<◌}
use native.Mathlib.Decide.{ℕ_discrete}
use native.Mathlib.Omega.{arith}
use mathlib.Core.Path.{◌≡◌, refl, sym, ap, ◌∙◌}
use mathlib.Core.Bool.{false, ◌||◌}
use mathlib.Core.List.{List, [], ◌∷◌, ◌++◌}
use lib.IntN.{ℤ}
use lib.ListN.{take, drop, set, take-append-drop}
use lib.Seq.{drop-drop, take-add}
use Rattle.ring.specs.declared.Point.{Point}
use Rattle.ring.specs.Grid.{beyond, some_beyond}
use Rattle.ring.proofs.Pick.{neither_left, neither_right}
use Rattle.districts.specs.Counts.{sum_to, list_to}
use Rattle.districts.specs.Register.{Slot, ring}
use Rattle.districts.specs.Lists.{outline_size, part, held, district, meaning}
use Rattle.room.specs.Writing.{numbers_of}
use Rattle.districts.proofs.Sums.{sum_same}
use Rattle.districts.proofs.Meaning.{part-within, unused-when, ring-when, list_same}

-- ---- parts

pub part-add : {A : Type 0} (l : List A) (p a b : ℕ) → part l p (a + b) ≡ part l p a ++ part l (p + a) b
part-add l p a b = take-add a b (drop p l) ∙ ap (λ m. take a (drop p l) ++ take b m) (drop-drop a p l)

-- a part of a part
pub part-of-part : {A : Type 0} (l : List A) (p t a n : ℕ) → a + n ≤ t → part (part l p t) a n ≡ part l (p + a) n
part-of-part l p t a n h = part-within (drop p l) a n t h ∙ ap (take n) (drop-drop a p l)

-- t stand at p in one list and at q in the other: so does every part of them
pub part-carried : {A : Type 0} (l m : List A) (p q t a n : ℕ) → part l p t ≡ part m q t → a + n ≤ t → part l (p + a) n ≡ part m (q + a) n
part-carried l m p q t a n e h = sym (part-of-part l p t a n h) ∙ ap (λ k. part k a n) e ∙ part-of-part m q t a n h

-- ---- on the grid

pub numbers-append : (P Q : List Point) → numbers_of (P ++ Q) ≡ numbers_of P ++ numbers_of Q
unfolding numbers_of
numbers-append [] Q = refl
numbers-append (p ∷ P) Q = ap (λ xs. p.x ∷ p.y ∷ xs) (numbers-append P Q)

append-on-grid : (xs ys : List ℤ) → some_beyond xs ≡ false → some_beyond ys ≡ false → some_beyond (xs ++ ys) ≡ false
append-on-grid [] ys e f = f
append-on-grid (x ∷ xs) ys e f = λ i. neither_left (beyond x) (some_beyond xs) e i || append-on-grid xs ys (neither_right (beyond x) (some_beyond xs) e) f i

pub both-on-grid : (P Q : List Point) → some_beyond (numbers_of P) ≡ false → some_beyond (numbers_of Q) ≡ false → some_beyond (numbers_of (P ++ Q)) ≡ false
both-on-grid P Q e f = ap some_beyond (numbers-append P Q) ∙ append-on-grid (numbers_of P) (numbers_of Q) e f

front-on-grid : (xs ys : List ℤ) → some_beyond (xs ++ ys) ≡ false → some_beyond xs ≡ false
front-on-grid [] ys e = refl
front-on-grid (x ∷ xs) ys e = λ i. neither_left (beyond x) (some_beyond (xs ++ ys)) e i || front-on-grid xs ys (neither_right (beyond x) (some_beyond (xs ++ ys)) e) i

back-on-grid : (xs ys : List ℤ) → some_beyond (xs ++ ys) ≡ false → some_beyond ys ≡ false
back-on-grid [] ys e = e
back-on-grid (x ∷ xs) ys e = back-on-grid xs ys (neither_right (beyond x) (some_beyond (xs ++ ys)) e)

-- where the first t points are on the grid, so are those of a part of them
pub points-on-grid : (P : List Point) (f n t : ℕ) → f + n ≤ t → some_beyond (numbers_of (part P 0 t)) ≡ false → some_beyond (numbers_of (part P f n)) ≡ false
points-on-grid P f n t h e =
    let Q = part P 0 t in
    let all : some_beyond (numbers_of (take f Q) ++ numbers_of (drop f Q)) ≡ false = ap some_beyond (sym (numbers-append (take f Q) (drop f Q))) ∙ ap (λ R. some_beyond (numbers_of R)) (take-append-drop f Q) ∙ e in
    let rest = back-on-grid (numbers_of (take f Q)) (numbers_of (drop f Q)) all in
    let some : some_beyond (numbers_of (take n (drop f Q)) ++ numbers_of (drop n (drop f Q))) ≡ false = ap some_beyond (sym (numbers-append (take n (drop f Q)) (drop n (drop f Q)))) ∙ ap (λ R. some_beyond (numbers_of R)) (take-append-drop n (drop f Q)) ∙ rest in
    ap (λ R. some_beyond (numbers_of R)) (sym (part-within P f n t h)) ∙ front-on-grid (numbers_of (take n (drop f Q))) _ some

-- ---- slots

-- n vertices that stand elsewhere make the same slot; where n is 0 the places do not matter
pub held_same : (P Q : List Point) (p q m n : ℕ) → m ≡ n → (0 < n → part P p n ≡ part Q q n) → held P p m ≡ held Q q n
held_same P Q p q m n e f = ap (held P p) e ∙ elim (ℕ_discrete n 0) [
  | yes none ↦ unused-when P p n none ∙ sym (unused-when Q q n none)
  | no some ↦ ring-when P p n some ∙ ap ring (f (omega arith)) ∙ sym (ring-when Q q n some)
]

-- ---- all numbers but one

-- two sums whose terms differ at d only
pub sum-but-one : (f g : ℕ → ℕ) (n d : ℕ) → d < n → ((k : ℕ) → k < n → (k ≡ d → ⊥) → f k ≡ g k) → sum_to n f + g d ≡ sum_to n g + f d
unfolding sum_to
sum-but-one f g zero d h e = absurd (let no_number : ⊥ = omega arith in no_number)
sum-but-one f g (suc n) d h e = elim (ℕ_discrete d n) [
  | yes last ↦
      let rest : sum_to n f ≡ sum_to n g = sum_same f g n (λ k b. e k (omega arith) (λ (c : k ≡ d). omega arith)) in
      let own : f d ≡ f n = ap f last in
      let its : g d ≡ g n = ap g last in
      omega arith
  | no before ↦
      let rest : sum_to n f + g d ≡ sum_to n g + f d = sum-but-one f g n d (omega arith) (λ k b. e k (omega arith)) in
      let last : f n ≡ g n = e n (omega arith) (λ (c : n ≡ d). omega arith) in
      omega arith
]

-- a list that differs from another at d only
pub list-but-one : {A : Type 0} (f g : ℕ → A) (n d : ℕ) (a : A) → (d < n → f d ≡ a) → ((k : ℕ) → k < n → (k ≡ d → ⊥) → f k ≡ g k) → list_to n f ≡ set (list_to n g) d a
unfolding list_to
list-but-one f g zero d a own e = refl
list-but-one f g (suc n) zero a own e = λ i. own (omega arith) i ∷ list_same n (λ k. f (suc k)) (λ k. g (suc k)) (λ k h. e (suc k) (omega arith) (λ (c : suc k ≡ 0). omega arith)) i
list-but-one f g (suc n) (suc d) a own e = λ i. e 0 (omega arith) (λ (c : 0 ≡ suc d). omega arith) i
    ∷ list-but-one (λ k. f (suc k)) (λ k. g (suc k)) n d a (λ h. own (omega arith)) (λ k h other. e (suc k) (omega arith) (λ (c : suc k ≡ suc d). other (omega arith))) i

-- the outline stays, number d gets a slot, and every other number keeps its own
pub meaning-but-one : (outline store store' : List Point) (runs runs' : List ℕ) (d : ℕ) (a : Slot) → outline_size runs' ≡ outline_size runs
    → (d < 64 → district store' runs' d ≡ a) → ((e : ℕ) → e < 64 → (e ≡ d → ⊥) → district store' runs' e ≡ district store runs e)
    → meaning outline store' runs' ≡ record { outline = (meaning outline store runs).outline; districts = set (meaning outline store runs).districts d a }
unfolding meaning
meaning-but-one outline store store' runs runs' d a same own others = λ i. record {
  outline = held outline 0 (same i);
  districts = list-but-one (district store' runs') (district store runs) 64 d a own others i;
}
