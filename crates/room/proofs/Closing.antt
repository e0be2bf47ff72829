-- A gap in the store is closed: what stands after it is moved down in both columns, and the first places behind it are lowered. Assumes nothing.
use Prim.Native.Nat.{ℕ, ◌+◌, ◌-◌, ◌≤◌, ◌<◌}
use native.Mathlib.Omega.{arith}
use mathlib.Core.Path.{◌≡◌, sym, ap, subst, transport, ◌∙◌}
use mathlib.Core.List.{List, ◌++◌, append_assoc}
use lib.IntN.{ℤ}
use lib.ListN.{length, take, drop, set, length-set, length-append, length-drop}
use lib.Seq.{paste, length-paste, take_at, drop_at, length-take-le, get_or-set_same, get_or-set_other}
use Rattle.ring.specs.declared.Point.{Point}
use Rattle.ring.specs.Columns.{points}
use Rattle.ring.proofs.Points.{length-points, points-take, points-drop, points-append, same-take, same_drop}
use Rattle.districts.specs.Lists.{first_place, size, part}
use Rattle.districts.specs.WellFormed.{total}
use Rattle.room.specs.Writing.{Lowered, Left}

-- the parts of a list in which a gap of n after f places was closed, t places being in use
module _ {A : Type 0} (store : List A) (f n t : ℕ) (h : f + n ≤ t) (k : t ≤ length store) where
  now : List A
  now = paste store f (drop (f + n) store) (t - (f + n))

  now-long : length now ≡ length store
  unfolding now
  now-long = length-paste store f (drop (f + n) store) (t - (f + n)) (omega arith) (omega (arith, length-drop (f + n) store))

  front : length (take f store) ≡ f
  front = length-take-le f store (omega arith)

  middle : List A
  middle = take (t - (f + n)) (drop (f + n) store)

  rest : List A
  rest = drop (f + (t - (f + n))) store

  split : now ≡ take f store ++ (middle ++ rest)
  unfolding now middle rest
  split = append_assoc (take f store) (take (t - (f + n)) (drop (f + n) store)) (drop (f + (t - (f + n))) store)

  now-lower : part now 0 f ≡ part store 0 f
  now-lower = ap (take f) split ∙ take_at (take f store) _ f front

  now-moved : part now f (t - (f + n)) ≡ part store (f + n) (t - (f + n))
  unfolding middle
  now-moved =
      ap (λ l. take (t - (f + n)) (drop f l)) split
      ∙ ap (take (t - (f + n))) (drop_at (take f store) (middle ++ rest) f front)
      ∙ take_at middle rest (t - (f + n)) (length-take-le (t - (f + n)) (drop (f + n) store) (omega (arith, length-drop (f + n) store)))

-- parts of both columns pasted are the part of the points pasted
pub both-pasted : (xs ys us vs : List ℤ) (a n : ℕ) → length xs ≡ length ys → length us ≡ length vs → points (paste xs a us n) (paste ys a vs n) ≡ paste (points xs ys) a (points us vs) n
both-pasted xs ys us vs a n e f =
    let front = same-take a xs ys e in
    let middle = same-take n us vs f in
    points-append (take a xs ++ take n us) (take a ys ++ take n vs) (drop (a + n) xs) (drop (a + n) ys)
    (length-append (take a xs) (take n us) ∙ (λ i. front i + middle i) ∙ sym (length-append (take a ys) (take n vs)))
    ∙ (λ i. (points-append (take a xs) (take a ys) (take n us) (take n vs) front ∙ (λ j. sym (points-take a xs ys) j ++ sym (points-take n us vs) j)) i ++ sym (points-drop (a + n) xs ys) i)

-- both columns are closed up, and the runs lowered
pub left : (sx sy : List ℤ) (runs : List ℕ) (d : ℕ) (runs₁ : List ℕ) → length sx ≡ 2048 → length sy ≡ 2048 → length runs ≡ 129 → d < 64
    → first_place runs d + size runs d ≤ total runs → total runs ≤ 2048 → (at n all : ℕ) → at ≡ first_place runs d → n ≡ size runs d → all ≡ total runs → Lowered runs (at + n) n runs₁
    → Left (points sx sy) runs d (points (paste sx at (drop (at + n) sx) (all - (at + n))) (paste sy at (drop (at + n) sy) (all - (at + n)))) (set runs₁ (65 + d) 0)
unfolding now
left sx sy runs d runs₁ x y b h fits most at n all e f g low =
    let same : length sx ≡ length sy = x ∙ sym y in
    let store : List Point = points sx sy in
    let long : length store ≡ 2048 = length-points sx sy same ∙ x in
    let room : total runs ≤ length store = omega arith in
    let its : Lowered runs (first_place runs d + size runs d) (size runs d) runs₁ = transport (λ i. Lowered runs (e i + f i) (f i) runs₁) low in
    let pasted = both-pasted sx sy (drop (at + n) sx) (drop (at + n) sy) at (all - (at + n)) same (same_drop (at + n) sx sy same)
    ∙ ap (λ P. paste store at P (all - (at + n))) (sym (points-drop (at + n) sx sy))
    ∙ (λ i. paste store (e i) (drop (e i + f i) store) (g i - (e i + f i))) in
    subst (λ P. Left store runs d P (set runs₁ (65 + d) 0)) (sym pasted) (record {
      long-store = now-long store (first_place runs d) (size runs d) (total runs) fits room ∙ long;
      long-runs = length-set runs₁ (65 + d) 0 ∙ its.long ∙ b;
      outline-same = get_or-set_other runs₁ (65 + d) 0 0 0 (λ (e : 0 ≡ 65 + d). omega arith) ∙ its.outline;
      gone = get_or-set_same runs₁ (65 + d) 0 0 (omega (arith, its.long));
      sizes = λ e i s. get_or-set_other runs₁ (65 + d) (65 + e) 0 0 (λ (g : 65 + e ≡ 65 + d). s (omega arith)) ∙ its.sizes (65 + e) (omega arith);
      places = λ e i s. get_or-set_other runs₁ (65 + d) (1 + e) 0 0 (λ (g : 1 + e ≡ 65 + d). omega arith) ∙ its.places e i;
      lower = now-lower store (first_place runs d) (size runs d) (total runs) fits room;
      moved = now-moved store (first_place runs d) (size runs d) (total runs) fits room;
    })
