-- Counts at their places in the list: the tally that a list is, with one of them raised. Assumes nothing.
use Prim.Native.Nat.{ℕ, ◌+◌, ◌<◌}
use native.Mathlib.Omega.{arith}
use mathlib.Core.Path.{◌≡◌, refl, sym, ap, subst, ◌∙◌}
use mathlib.Core.Bool.{Bool, true, false, cond, ◌||◌}
use mathlib.Core.List.{List}
use borrow.Author.Tests.{leb-false, eq-eqb, ne_eqb}
use lib.Dec.{leb, eqb}
use lib.ListN.{length, get_or, take, set}
use lib.Seq.{get_or-take, get_or-set_same, get_or-set_other, take-set-le, take-set-lt}
use Rattle.ring.proofs.Pick.{pick_true, pick-false}
use Rattle.districts.specs.Answers.{Belongs, border, one, none, several, Answer, report, refused}
use Rattle.tally.specs.Tally.{most, count_of, uncounted, full, raised}
use Rattle.codes.specs.Counts.{counts, tally_of, place_of, CountedBy}

-- ---- a class with a count, and one without

pub no-count : (b : Belongs) → place_of b ≡ counts → uncounted b ≡ true
no-count (border d t) e = absurd (let f : ⊥ = omega (arith, e) in f)
no-count (one d) e = say (leb 64 d) refl
  where
    say : (b : Bool) → leb 64 d ≡ b → leb 64 d ≡ true
    say true h = h
    say false h = let at : place_of (one d) ≡ d = pick-false h _ _ in absurd (let f : ⊥ = omega (arith, at, e, leb-false 64 d h) in f)
no-count none e = absurd (let f : ⊥ = omega (arith, e) in f)
no-count (several d n) e = absurd (let f : ⊥ = omega (arith, e) in f)

-- a district number that has a count stands at its own place
own-place : (d : ℕ) → place_of (one d) < counts → (leb 64 d ≡ false) × (place_of (one d) ≡ d)
own-place d h = say (leb 64 d) refl
  where
    say : (b : Bool) → leb 64 d ≡ b → (leb 64 d ≡ false) × (place_of (one d) ≡ d)
    say true e = let at : place_of (one d) ≡ 67 = pick_true e _ _ in absurd (let f : ⊥ = omega (arith, at, h) in f)
    say false e = (e, pick-false e _ _)

has-count : (b : Belongs) → place_of b < counts → uncounted b ≡ false
has-count (border d t) h = refl
has-count (one d) h = (own-place d h).0
has-count none h = refl
has-count (several d n) h = refl

-- ---- reading and raising a count

count_at : (list : List ℕ) (b : Belongs) → place_of b < counts → get_or list (place_of b) 0 ≡ count_of (tally_of list) b
count_at list (border d t) h = refl
count_at list (one d) h =
    let own = own-place d h in
    let low = leb-false 64 d own.0 in
    ap (λ k. get_or list k 0) own.1 ∙ sym (get_or-take 64 list d 0 low)
count_at list none h = refl
count_at list (several d n) h = refl

raised_at : (list : List ℕ) (b : Belongs) (v : ℕ) → length list ≡ counts → place_of b < counts → v ≡ get_or list (place_of b) 0 + 1 → tally_of (set list (place_of b) v) ≡ raised (tally_of list) b
raised_at list (border d t) v long h e =
    λ i. record { ones = take-set-le 64 list 64 v (omega arith) i; border = (get_or-set_same list 64 v 0 (omega (arith, long)) ∙ e) i; none = get_or-set_other list 64 65 v 0 (λ x. omega (arith, x)) i; several = get_or-set_other list 64 66 v 0 (λ x. omega (arith, x)) i }
raised_at list (one d) v long h e =
    let own = own-place d h in
    let low = leb-false 64 d own.0 in
    let kept = e ∙ ap (λ n. n + 1) (count_at list (one d) h) in
    ap (λ k. tally_of (set list k v)) own.1
    ∙ (λ i. record { ones = (take-set-lt 64 list d v low ∙ ap (set (take 64 list) d) kept) i; border = get_or-set_other list d 64 v 0 (λ x. omega (arith, x, low)) i; none = get_or-set_other list d 65 v 0 (λ x. omega (arith, x, low)) i; several = get_or-set_other list d 66 v 0 (λ x. omega (arith, x, low)) i })
raised_at list none v long h e =
    λ i. record { ones = take-set-le 64 list 65 v (omega arith) i; border = get_or-set_other list 65 64 v 0 (λ x. omega (arith, x)) i; none = (get_or-set_same list 65 v 0 (omega (arith, long)) ∙ e) i; several = get_or-set_other list 65 66 v 0 (λ x. omega (arith, x)) i }
raised_at list (several d n) v long h e =
    λ i. record { ones = take-set-le 64 list 66 v (omega arith) i; border = get_or-set_other list 66 64 v 0 (λ x. omega (arith, x)) i; none = get_or-set_other list 66 65 v 0 (λ x. omega (arith, x)) i; several = (get_or-set_same list 66 v 0 (omega (arith, long)) ∙ e) i }

-- ---- what is answered

full-refused : (r : ℕ) (b : Belongs) (list : List ℕ) → full (tally_of list) b ≡ true → CountedBy (report r b) (refused 14) list list
full-refused r b list e = record { tally = sym (ap (λ f. cond f (tally_of list) (raised (tally_of list) b)) e); answer = sym (ap (λ f. cond f (refused 14) (report r b)) e) }

pub uncounted-refused : (r : ℕ) (b : Belongs) (list : List ℕ) → place_of b ≡ counts → CountedBy (report r b) (refused 14) list list
uncounted-refused r b list e = full-refused r b list (ap (λ u. u || eqb (count_of (tally_of list) b) most) (no-count b e))

-- the count at a class's place is as large as a number can be, or it is raised
module _ (r : ℕ) (b : Belongs) (list : List ℕ) (k : ℕ) (at : k ≡ place_of b) (h : k < counts) where
  own : place_of b < counts
  own = subst (λ n. n < counts) at h

  count : get_or list k 0 ≡ count_of (tally_of list) b
  count = ap (λ n. get_or list n 0) at ∙ count_at list b own

  pub limit-refused : get_or list k 0 ≡ most → CountedBy (report r b) (refused 14) list list
  limit-refused e = full-refused r b list (ap (λ u. u || eqb (count_of (tally_of list) b) most) (has-count b own) ∙ eq-eqb _ _ (sym count ∙ e))

  pub counted-more : (v : ℕ) → length list ≡ counts → (get_or list k 0 ≡ most → ⊥) → v ≡ get_or list k 0 + 1 → CountedBy (report r b) (report r b) list (set list k v)
  counted-more v long other e =
      let room : full (tally_of list) b ≡ false = ap (λ u. u || eqb (count_of (tally_of list) b) most) (has-count b own) ∙ ne_eqb _ _ (λ x. other (count ∙ x)) in
      record {
        tally = ap (λ n. tally_of (set list n v)) at ∙ raised_at list b v long own (e ∙ ap (λ n. get_or list n 0 + 1) at) ∙ sym (ap (λ f. cond f (tally_of list) (raised (tally_of list) b)) room);
        answer = sym (ap (λ f. cond f (refused 14) (report r b)) room);
      }

-- an answer is another of the same value
pub counted-as : {a c b : Answer} {before after : List ℕ} → a ≡ c → CountedBy c b before after → CountedBy a b before after
counted-as {b = b} {before = before} {after = after} e k = subst (λ x. CountedBy x b before after) (sym e) k
