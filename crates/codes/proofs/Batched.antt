-- Answers told one after the other in a list, nine numbers each, and each of them counted. Assumes nothing.
use Prim.Native.Nat.{ℕ, zero, suc, ◌+◌, ◌*◌, ◌-◌, ◌/◌, ◌≤◌, ◌<◌}
use native.Mathlib.Numerals.{add-one}
use native.Mathlib.Omega.{arith}
use native.Mathlib.Nat.{div-mul-le_self}
use mathlib.Core.Path.{◌≡◌, refl, sym, ap, subst, ◌∙◌}
use mathlib.Core.Bool.{Bool, true, false}
use mathlib.Core.List.{List, [], ◌∷◌, ◌++◌, append_assoc}
use lib.IntN.{ℤ}
use lib.Seq.{take-append_seam, drop-append_seam, drop-drop}
use lib.ListN.{length, get_or, set, take, drop, length-append}
use lib.Dec.{ltb}
use borrow.Author.Tests.{ltb-true, ltb-false}
use borrow.Rule.Slice.PartMut.{mid_of, put_mid}
use Rattle.std.specs.Prelude.{Option, Ok, Err}
use Rattle.ring.specs.Locate.{vertex, edge}
use Rattle.refusals.specs.declared.Refusal.{Refusal}
use Rattle.refusals.specs.Numbers.{number_of}
use Rattle.refusals.specs.Verdicts.{accept, verdict}
use Rattle.refusals.proofs.Verdicts.{accepted}
use Rattle.room.proofs.Written.{tail-only, tail_of}
use Rattle.districts.specs.Answers.{Belongs, border, one, none, several, Answer, report, refused}
use Rattle.districts.specs.Lent.{Lists, formed, means, beginning}
use Rattle.districts.specs.Held.{StoreOf}
use Rattle.districts.specs.declared.store.Store.{Store}
use Rattle.districts.proofs.Begun.{begun-formed}
use Rattle.register.specs.Sorting.{point_tests, given}
use Rattle.register.proofs.Given.{answer-given, sorted-is}
use Rattle.tally.specs.declared.Tally.{Tally}
use Rattle.tally.specs.Tally.{tallied, answered}
use Rattle.codes.specs.Codes.{class_code, answer_code}
use Rattle.codes.specs.Counts.{tally_of, place_of, place_told, place_in, Raises}
use Rattle.codes.specs.Batches.{told, point_at, answers_to, tally_to, counted_to, answer_by, answer_in, room_tests, left_by, batch, CountsTold, AllCounted}

-- ---- nine numbers written one by one

pub nine : (l : List ℕ) (k a b c d e f g h : ℕ) → 9 ≤ length l → set (set (set (set (set (set (set (set (set l 0 k) 1 a) 2 b) 3 c) 4 d) 5 e) 6 f) 7 g) 8 h ≡ k ∷ a ∷ b ∷ c ∷ d ∷ e ∷ f ∷ g ∷ h ∷ drop 9 l
nine [] k a b c d e f g h l = absurd (let z : ⊥ = omega arith in z)
nine (x0 ∷ []) k a b c d e f g h l = absurd (let z : ⊥ = omega arith in z)
nine (x0 ∷ x1 ∷ []) k a b c d e f g h l = absurd (let z : ⊥ = omega arith in z)
nine (x0 ∷ x1 ∷ x2 ∷ []) k a b c d e f g h l = absurd (let z : ⊥ = omega arith in z)
nine (x0 ∷ x1 ∷ x2 ∷ x3 ∷ []) k a b c d e f g h l = absurd (let z : ⊥ = omega arith in z)
nine (x0 ∷ x1 ∷ x2 ∷ x3 ∷ x4 ∷ []) k a b c d e f g h l = absurd (let z : ⊥ = omega arith in z)
nine (x0 ∷ x1 ∷ x2 ∷ x3 ∷ x4 ∷ x5 ∷ []) k a b c d e f g h l = absurd (let z : ⊥ = omega arith in z)
nine (x0 ∷ x1 ∷ x2 ∷ x3 ∷ x4 ∷ x5 ∷ x6 ∷ []) k a b c d e f g h l = absurd (let z : ⊥ = omega arith in z)
nine (x0 ∷ x1 ∷ x2 ∷ x3 ∷ x4 ∷ x5 ∷ x6 ∷ x7 ∷ []) k a b c d e f g h l = absurd (let z : ⊥ = omega arith in z)
nine (x0 ∷ x1 ∷ x2 ∷ x3 ∷ x4 ∷ x5 ∷ x6 ∷ x7 ∷ x8 ∷ xs) k a b c d e f g h l = refl

pub eight : (vs rest : List ℕ) → length vs ≡ 8 → get_or vs 0 0 ∷ get_or vs 1 0 ∷ get_or vs 2 0 ∷ get_or vs 3 0 ∷ get_or vs 4 0 ∷ get_or vs 5 0 ∷ get_or vs 6 0 ∷ get_or vs 7 0 ∷ rest ≡ vs ++ rest
eight [] rest e = absurd (let z : ⊥ = omega arith in z)
eight (x0 ∷ []) rest e = absurd (let z : ⊥ = omega arith in z)
eight (x0 ∷ x1 ∷ []) rest e = absurd (let z : ⊥ = omega arith in z)
eight (x0 ∷ x1 ∷ x2 ∷ []) rest e = absurd (let z : ⊥ = omega arith in z)
eight (x0 ∷ x1 ∷ x2 ∷ x3 ∷ []) rest e = absurd (let z : ⊥ = omega arith in z)
eight (x0 ∷ x1 ∷ x2 ∷ x3 ∷ x4 ∷ []) rest e = absurd (let z : ⊥ = omega arith in z)
eight (x0 ∷ x1 ∷ x2 ∷ x3 ∷ x4 ∷ x5 ∷ []) rest e = absurd (let z : ⊥ = omega arith in z)
eight (x0 ∷ x1 ∷ x2 ∷ x3 ∷ x4 ∷ x5 ∷ x6 ∷ []) rest e = absurd (let z : ⊥ = omega arith in z)
eight (x0 ∷ x1 ∷ x2 ∷ x3 ∷ x4 ∷ x5 ∷ x6 ∷ x7 ∷ []) rest e = refl
eight (x0 ∷ x1 ∷ x2 ∷ x3 ∷ x4 ∷ x5 ∷ x6 ∷ x7 ∷ x8 ∷ xs) rest e = absurd (let z : ⊥ = omega arith in z)

-- ---- answers one after the other

pub told-long : (a : Answer) → length (told (answer_code a)) ≡ 9
told-long (report r (border d (vertex i j))) = refl
told-long (report r (border d (edge i j))) = refl
told-long (report r (one d)) = refl
told-long (report r none) = refl
told-long (report r (several d n)) = refl
told-long (refused n) = refl

-- the last answer, of nine numbers, behind n others
last-told : (A T rest : List ℕ) (n : ℕ) → length A ≡ 9 * n → length T ≡ 9 → drop (9 * n) ((A ++ T) ++ rest) ≡ T ++ drop (9 * (n + 1)) ((A ++ T) ++ rest)
last-told A T rest n long nine-long =
    let here : drop (9 * n) ((A ++ T) ++ rest) ≡ T ++ rest = ap (drop (9 * n)) (append_assoc A T rest) ∙ ap (λ k. drop k (A ++ (T ++ rest))) (sym long) ∙ drop-append_seam A (T ++ rest) in
    let both : 9 * (n + 1) ≡ length (A ++ T) = omega (arith, length-append A T, long, nine-long) in
    let behind : drop (9 * (n + 1)) ((A ++ T) ++ rest) ≡ rest = ap (λ k. drop k ((A ++ T) ++ rest)) both ∙ drop-append_seam (A ++ T) rest in
    here ∙ ap (λ l. T ++ l) (sym behind)

module _ (f : ℕ → Answer) where
  pub answers-long : (n : ℕ) → length (answers_to f n) ≡ 9 * n
  unfolding answers_to
  answers-long zero = refl
  answers-long (suc n) = length-append (answers_to f n) _ ∙ (λ i. answers-long n i + told-long (f n) i) ∙ (let e : 9 * n + 9 ≡ 9 * suc n = omega arith in e)

  pub answers-none : (before : List ℕ) → before ≡ answers_to f 0 ++ drop (9 * 0) before
  unfolding answers_to
  answers-none before = refl

  -- what stands behind n answers, and behind one more
  answers-back : (n : ℕ) (before after : List ℕ) → after ≡ answers_to f n ++ drop (9 * n) before → drop (9 * n) after ≡ drop (9 * n) before
  answers-back n before after e =
      let A = answers_to f n in
      let D = drop (9 * n) before in
      ap (drop (9 * n)) e ∙ ap (λ k. drop k (A ++ D)) (sym (answers-long n)) ∙ drop-append_seam A D

  answers-rest : (n : ℕ) (before after : List ℕ) → after ≡ answers_to f n ++ drop (9 * n) before → drop 9 (mid_of (9 * n) (length after - 9 * n) after) ≡ drop (9 * (n + 1)) before
  answers-rest n before after e =
      ap (drop 9) (tail_of after (9 * n) ∙ answers-back n before after e) ∙ drop-drop 9 (9 * n) before ∙ ap (λ k. drop k before) (let z : 9 * n + 9 ≡ 9 * (n + 1) = omega arith in z)

  -- one answer more, told at the front of what stood behind the others
  pub answers-more : (n : ℕ) (before after tail : List ℕ) (a : Answer) → a ≡ f n → after ≡ answers_to f n ++ drop (9 * n) before → tail ≡ told (answer_code a) ++ drop (9 * (n + 1)) before
      → put_mid (9 * n) (length after - 9 * n) after tail ≡ answers_to f (n + 1) ++ drop (9 * (n + 1)) before
  unfolding answers_to
  answers-more n before after tail a is e t =
      let A = answers_to f n in
      let D = drop (9 * n) before in
      let front : take (9 * n) after ≡ A = ap (take (9 * n)) e ∙ ap (λ k. take k (A ++ D)) (sym (answers-long n)) ∙ take-append_seam A D in
      tail-only after tail (9 * n)
      ∙ (λ i. front i ++ (t ∙ (λ j. told (answer_code (is j)) ++ drop (9 * (n + 1)) before)) i)
      ∙ sym (append_assoc A (told (answer_code (f n))) (drop (9 * (n + 1)) before))
      ∙ ap (λ m. answers_to f m ++ drop (9 * (n + 1)) before) (sym (add-one n))

  -- answer i of n
  told_at : (n i : ℕ) (rest : List ℕ) → i < n → drop (9 * i) (answers_to f n ++ rest) ≡ told (answer_code (f i)) ++ drop (9 * (i + 1)) (answers_to f n ++ rest)
  unfolding answers_to
  told_at zero i rest more = absurd (let z : ⊥ = omega (arith, more) in z)
  told_at (suc n) i rest more = say (ltb i n) refl (λ lt. told_at n i (told (answer_code (f n)) ++ rest) lt)
    where
      At : ℕ → List ℕ → Type 0
      At k l = drop (9 * k) l ≡ told (answer_code (f k)) ++ drop (9 * (k + 1)) l

      say : (b : Bool) → ltb i n ≡ b → (i < n → At i (answers_to f n ++ (told (answer_code (f n)) ++ rest))) → At i ((answers_to f n ++ told (answer_code (f n))) ++ rest)
      say true e earlier = subst (At i) (sym (append_assoc (answers_to f n) (told (answer_code (f n))) rest)) (earlier (ltb-true i n e))
      say false e earlier =
          let last : i ≡ n = omega (arith, more, ltb-false i n e) in
          subst (λ k. At k ((answers_to f n ++ told (answer_code (f n))) ++ rest)) (sym last) (last-told (answers_to f n) (told (answer_code (f n))) rest n (answers-long n) (told-long (f n)))

-- ---- a loop that answers n points, after i of them

pub answered-more : (f : ℕ → Answer) (i : ℕ) (before after tail : List ℕ) (a : Answer) → after ≡ answers_to f i ++ drop (9 * i) before → a ≡ f i
    → tail ≡ told (answer_code a) ++ drop 9 (mid_of (9 * i) (length after - 9 * i) after)
    → put_mid (9 * i) (length after - 9 * i) after tail ≡ answers_to f (i + 1) ++ drop (9 * (i + 1)) before
answered-more f i before after tail a e is t = answers-more f i before after tail a is e (t ∙ ap (λ l. told (answer_code a) ++ l) (answers-rest f i before after e))

-- ---- an answer counted by the numbers that tell it

told-behind : (a : Answer) (rest : List ℕ) → drop 9 (told (answer_code a) ++ rest) ≡ rest
told-behind a rest = ap (λ k. drop k (told (answer_code a) ++ rest)) (sym (told-long a)) ∙ drop-append_seam (told (answer_code a)) rest

sorted-kind : (b : Belongs) → (class_code b).kind ≡ 0 → ⊥
sorted-kind (border d (vertex i j)) e = omega (arith, e)
sorted-kind (border d (edge i j)) e = omega (arith, e)
sorted-kind (one d) e = omega (arith, e)
sorted-kind none e = omega (arith, e)
sorted-kind (several d n) e = omega (arith, e)

place-told : (b : Belongs) (rest : List ℕ) → place_told (get_or (told (class_code b) ++ rest) 0 0) (get_or (told (class_code b) ++ rest) 1 0) ≡ place_of b
place-told (border d (vertex i j)) rest = refl
place-told (border d (edge i j)) rest = refl
place-told (one d) rest = refl
place-told none rest = refl
place-told (several d n) rest = refl

module _ (before counts counts' : List ℕ) (at : Option ℕ) (other : get_or before 0 0 ≡ 0 → ⊥) (is : place_in at ≡ place_told (get_or before 0 0) (get_or before 1 0)) where
  its-place : (n : ℕ) (b : Belongs) (rest : List ℕ) → before ≡ told (answer_code (report n b)) ++ rest → place_in at ≡ place_of b
  its-place n b rest e = is ∙ (λ i. place_told (get_or (e i) 0 0) (get_or (e i) 1 0)) ∙ place-told b rest

  pub raised-told : (u : Unit {0}) → Raises at (Ok u) counts counts' → CountsTold before before counts counts'
  raised-told u by (report n b) rest e = let k = by n b (its-place n b rest e) in (e ∙ ap (λ a. told (answer_code a) ++ rest) k.answer, k.tally)
  raised-told u by (refused n) rest e = absurd (other (ap (λ l. get_or l 0 0) e))

  pub full-told : (r : Refusal) (after : List ℕ) → after ≡ told (answer_code (refused (number_of r))) ++ drop 9 before → Raises at (Err r) counts counts' → CountsTold before after counts counts'
  full-told r after so by (report n b) rest e =
      let k = by n b (its-place n b rest e) in
      (so ∙ (λ i. told (answer_code (k.answer i)) ++ (ap (drop 9) e ∙ told-behind (report n b) rest) i), k.tally)
  full-told r after so by (refused n) rest e = absurd (other (ap (λ l. get_or l 0 0) e))

-- ---- a loop that counts n answers, after i of them

module _ (t : Tally) (f : ℕ → Answer) where
  tally-none : t ≡ tally_to t f 0
  unfolding tally_to
  tally-none = refl

  tally-more : (n : ℕ) → tallied (tally_to t f n) (f n) ≡ tally_to t f (n + 1)
  unfolding tally_to
  tally-more n = ap (tally_to t f) (sym (add-one n))

-- whatever n answers the list told, the first i of them are counted and told anew
abbrev pub Counted : ℕ → ℕ → List ℕ → List ℕ → List ℕ → List ℕ → Type 0
Counted n i before after counts counts' =
    (f : ℕ → Answer) (rest : List ℕ) → before ≡ answers_to f n ++ rest → (after ≡ answers_to (counted_to (tally_of counts) f) i ++ drop (9 * i) before) × (tally_of counts' ≡ tally_to (tally_of counts) f i)

pub counted_none : (n : ℕ) (before counts : List ℕ) → Counted n 0 before before counts counts
counted_none n before counts f rest e = (answers-none (counted_to (tally_of counts) f) before, tally-none (tally_of counts) f)

module _ (n i : ℕ) (before after counts counts' : List ℕ) (so : Counted n i before after counts counts') where
  pub counted_next : (tail counts'' : List ℕ) → i < n → CountsTold (mid_of (9 * i) (length after - 9 * i) after) tail counts' counts'' → Counted n (i + 1) before (put_mid (9 * i) (length after - 9 * i) after tail) counts counts''
  counted_next tail counts'' more told-so f rest e =
      let t = tally_of counts in
      let g = counted_to t f in
      let s = so f rest e in
      let at : drop (9 * i) before ≡ told (answer_code (f i)) ++ drop (9 * (i + 1)) before = subst (λ l. drop (9 * i) l ≡ told (answer_code (f i)) ++ drop (9 * (i + 1)) l) (sym e) (told_at f n i rest more) in
      let k = told-so (f i) (drop (9 * (i + 1)) before) (tail_of after (9 * i) ∙ answers-back g i before after s.0 ∙ at) in
      (answers-more g i before after tail (answered (tally_of counts') (f i)) (λ j. answered (s.1 j) (f i)) s.0 k.0, k.1 ∙ (λ j. tallied (s.1 j) (f i)) ∙ tally-more t f i)

  pub counted-all : i ≡ n → AllCounted n before after counts counts'
  counted-all all f rest e =
      let t = tally_of counts in
      let s = so f rest e in
      let behind : drop (9 * n) before ≡ rest = ap (drop (9 * n)) e ∙ ap (λ k. drop k (answers_to f n ++ rest)) (sym (answers-long f n)) ∙ drop-append_seam (answers_to f n) rest in
      (s.0 ∙ ap (λ k. answers_to (counted_to t f) k ++ drop (9 * k) before) all ∙ ap (λ l. answers_to (counted_to t f) n ++ l) behind, s.1 ∙ ap (tally_to t f) all)

-- ---- what it says that nothing is refused

-- the room that the loops ask for
pub room-for : (p a : ℕ) → verdict (room_tests p a) ≡ accept → 9 * (p / 2) ≤ a
room-for p a so = omega (arith, ltb-false (a / 9) (p / 2) (accepted 28 _ _ (accepted 4 _ _ so).1).0, div-mul-le_self a 9)

pub batch-room : (l : Lists) (xs : List ℤ) (a : ℕ) → batch l xs a ≡ accept → 9 * (length xs / 2) ≤ a
batch-room l xs a so = room-for (length xs) a (accepted 2 _ _ (accepted 1 _ _ so).1).1

-- by the columns and the runs as by the register that they mean
module _ (l : Lists) (xs : List ℤ) (begun : verdict (beginning (formed l) (means l)) ≡ accept) where
  answers-same : answer_by l.sx l.sy l.runs xs ≡ answer_in l xs
  answers-same i k =
      let R = point_at xs k in
      (ap (λ b. given (verdict (point_tests R.x R.y)) (report 0 b)) (sorted-is l (begun-formed l begun) R) ∙ answer-given (formed l) (means l) 0 R.x R.y begun) i

  -- by a store of these lists
  pub batch-left : (s : Store) → StoreOf l s → (before after : List ℕ) → after ≡ answers_to (answer_by s.sx.now s.sy.now s.runs.list.now xs) (length xs / 2) ++ drop (9 * (length xs / 2)) before
      → after ≡ left_by accept (answers_to (answer_in l xs) (length xs / 2)) before
  batch-left s is before after done =
      let n = length xs / 2 in
      done ∙ (λ i. answers_to (answer_by (is.0 i) (is.1 i) (is.2 i) xs) n ++ drop (9 * n) before) ∙ (λ i. answers_to (answers-same i) n ++ drop (9 * n) before)
      ∙ ap (λ k. answers_to (answer_in l xs) n ++ drop k before) (sym (answers-long (answer_in l xs) n))

-- other answers in the place of those that were left
pub left-again : (f g : ℕ → Answer) (n : ℕ) (before after : List ℕ) → after ≡ answers_to g n ++ drop (length (answers_to f n)) before → after ≡ left_by accept (answers_to g n) before
left-again f g n before after e = e ∙ ap (λ k. answers_to g n ++ drop k before) (answers-long f n ∙ sym (answers-long g n))
