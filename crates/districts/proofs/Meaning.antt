-- What a number means, read off the lists; and that what stands in the free room has no meaning. Assumes nothing.
use Prim.Native.Nat.{ℕ, zero, suc, ◌+◌, ◌≤◌, ◌<◌}
use native.Mathlib.Decide.{dec_lt, ℕ_discrete}
use native.Mathlib.Omega.{arith}
use mathlib.Core.Path.{◌≡◌, refl, sym, ap, ◌∙◌}
use mathlib.Core.Bool.{true, false, ◌||◌}
use mathlib.Core.List.{List, [], ◌∷◌}
use lib.Dec.{eqb}
use lib.IntN.{ℤ}
use lib.ListN.{length, get_or, take, drop, get_or-eq_default}
use lib.Seq.{take-take}
use borrow.Author.Tests.{eq-eqb, ne_eqb}
use Rattle.ring.specs.declared.Point.{Point}
use Rattle.ring.specs.Grid.{beyond, some_beyond}
use Rattle.ring.specs.Choices.{pick}
use Rattle.ring.proofs.Pick.{pick_true, pick-false, neither_left, neither_right}
use Rattle.districts.specs.Counts.{list_to}
use Rattle.districts.specs.Register.{unused, ring, slot}
use Rattle.districts.specs.Lists.{outline_size, first_place, size, part, held, district, meaning}
use Rattle.districts.specs.WellFormed.{total}
use Rattle.districts.specs.Lent.{Lists, outline_of, store_of, formed, means}
use Rattle.districts.proofs.Sound.{run_inside}

-- ---- lists of so many

pub list_at : {A : Type 0} (n : ℕ) (f : ℕ → A) (a : A) (i : ℕ) → i < n → get_or (list_to n f) i a ≡ f i
unfolding list_to
list_at zero f a i h = absurd (let g : ⊥ = omega arith in g)
list_at (suc n) f a zero h = refl
list_at (suc n) f a (suc i) h = list_at n (λ k. f (suc k)) a i (omega arith)

pub list-past : {A : Type 0} (n : ℕ) (f : ℕ → A) (a : A) (i : ℕ) → n ≤ i → get_or (list_to n f) i a ≡ a
unfolding list_to
list-past zero f a i h = refl
list-past (suc n) f a zero h = absurd (let g : ⊥ = omega arith in g)
list-past (suc n) f a (suc i) h = list-past n (λ k. f (suc k)) a i (omega arith)

pub list-long : {A : Type 0} (n : ℕ) (f : ℕ → A) → length (list_to n f) ≡ n
unfolding list_to
list-long zero f = refl
list-long (suc n) f = ap suc (list-long n (λ k. f (suc k)))

pub list_same : {A : Type 0} (n : ℕ) (f g : ℕ → A) → ((i : ℕ) → i < n → f i ≡ g i) → list_to n f ≡ list_to n g
unfolding list_to
list_same zero f g e = refl
list_same (suc n) f g e = λ i. e 0 (omega arith) i ∷ list_same n (λ k. f (suc k)) (λ k. g (suc k)) (λ k h. e (suc k) (omega arith)) i

-- ---- what a number has

pub unused-when : (P : List Point) (f n : ℕ) → n ≡ 0 → held P f n ≡ unused
unused-when P f n e = pick_true (eq-eqb n 0 e) _ _

pub ring-when : (P : List Point) (f n : ℕ) → (n ≡ 0 → ⊥) → held P f n ≡ ring (part P f n)
ring-when P f n e = pick-false (ne_eqb n 0 e) _ _

-- a number's slot is what the runs say of it, above 63 too
pub slot_is : (outline store : List Point) (runs : List ℕ) → length runs ≡ 129 → (d : ℕ) → slot (meaning outline store runs) d ≡ district store runs d
unfolding meaning
slot_is outline store runs e d = elim (dec_lt d 64) [
  | yes h ↦ list_at 64 (district store runs) unused d h
  | no h ↦ list-past 64 (district store runs) unused d (omega arith)
      ∙ sym (unused-when store (first_place runs d) (size runs d) (get_or-eq_default runs 0 (omega (arith, e))))
]

pub all-numbers : (outline store : List Point) (runs : List ℕ) → length (meaning outline store runs).districts ≡ 64
unfolding meaning
all-numbers outline store runs = list-long 64 (district store runs)

-- ---- parts of parts

take-drop-take : {A : Type 0} (n f t : ℕ) (xs : List A) → f + n ≤ t → take n (drop f (take t xs)) ≡ take n (drop f xs)
take-drop-take n zero t xs h = take-take n t xs (omega arith)
take-drop-take n (suc f) zero xs h = absurd (let g : ⊥ = omega arith in g)
take-drop-take n (suc f) (suc t) [] h = refl
take-drop-take n (suc f) (suc t) (x ∷ xs) h = take-drop-take n f t xs (omega arith)

-- a part within the first t does not depend on what comes after them
pub part-within : {A : Type 0} (l : List A) (f n t : ℕ) → f + n ≤ t → part (part l 0 t) f n ≡ part l f n
part-within l f n t h = take-drop-take n f t l h

take-on-grid : (k : ℕ) (xs : List ℤ) → some_beyond xs ≡ false → some_beyond (take k xs) ≡ false
take-on-grid zero xs e = refl
take-on-grid (suc k) [] e = refl
take-on-grid (suc k) (x ∷ xs) e = λ i. neither_left (beyond x) (some_beyond xs) e i || take-on-grid k xs (neither_right (beyond x) (some_beyond xs) e) i

drop-on-grid : (k : ℕ) (xs : List ℤ) → some_beyond xs ≡ false → some_beyond (drop k xs) ≡ false
drop-on-grid zero xs e = e
drop-on-grid (suc k) [] e = refl
drop-on-grid (suc k) (x ∷ xs) e = drop-on-grid k xs (neither_right (beyond x) (some_beyond xs) e)

pub part-on-grid : (xs : List ℤ) (f n t : ℕ) → f + n ≤ t → some_beyond (part xs 0 t) ≡ false → some_beyond (part xs f n) ≡ false
part-on-grid xs f n t h e = ap some_beyond (sym (part-within xs f n t h)) ∙ take-on-grid n (drop f (part xs 0 t)) (drop-on-grid f (part xs 0 t) e)

-- ---- the free room

-- the lists agree in what is used: the counts, the first places of used numbers, and the used parts
pub record SameUsed (l l' : Lists) : Type 0 where
  pub outline-size : outline_size l'.runs ≡ outline_size l.runs
  pub sizes : (d : ℕ) → d < 64 → size l'.runs d ≡ size l.runs d
  pub places : (d : ℕ) → d < 64 → 0 < size l.runs d → first_place l'.runs d ≡ first_place l.runs d
  pub outline-part : part (outline_of l') 0 (outline_size l.runs) ≡ part (outline_of l) 0 (outline_size l.runs)
  pub store-part : part (store_of l') 0 (total l.runs) ≡ part (store_of l) 0 (total l.runs)

module _ (l l' : Lists) (good : formed l ≡ true) (s : SameUsed l l') where
  abbrev runs : List ℕ
  runs = l.runs

  abbrev runs' : List ℕ
  runs' = l'.runs

  same-district : (d : ℕ) → d < 64 → district (store_of l') runs' d ≡ district (store_of l) runs d
  same-district d h = elim (ℕ_discrete (size runs d) 0) [
    | yes e ↦ unused-when (store_of l') (first_place runs' d) (size runs' d) (s.sizes d h ∙ e) ∙ sym (unused-when (store_of l) (first_place runs d) (size runs d) e)
    | no e ↦
        let used : 0 < size runs d = omega arith in
        let fits = run_inside l good d h used in
        (λ i. held (store_of l') (s.places d h used i) (s.sizes d h i))
        ∙ (λ i. pick (eqb (size runs d) 0) unused (ring (
        (sym (part-within (store_of l') (first_place runs d) (size runs d) (total runs) fits)
        ∙ ap (λ P. part P (first_place runs d) (size runs d)) s.store-part
        ∙ part-within (store_of l) (first_place runs d) (size runs d) (total runs) fits) i)))
  ]

  pub free-room-means-nothing : means l' ≡ means l
  unfolding meaning
  free-room-means-nothing = λ i. record {
    outline = ((λ j. held (outline_of l') 0 (s.outline-size j)) ∙ (λ j. pick (eqb (outline_size runs) 0) unused (ring (s.outline-part j)))) i;
    districts = list_same 64 (district (store_of l') runs') (district (store_of l) runs) same-district i;
  }
