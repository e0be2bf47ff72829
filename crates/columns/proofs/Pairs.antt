-- Of a ring that a row crosses twice, and that has no vertex on it, only the two edges count that cross it. Assumes nothing.
use Prim.Native.Nat.{ℕ, zero, suc, ◌+◌, ◌-◌, ◌<◌}
use native.Mathlib.Decide.{dec_lt, ℕ_discrete}
use native.Mathlib.Nat.{add-zero, zero-add}
use native.Mathlib.Numerals.{add-one}
use native.Mathlib.Omega.{arith}
use mathlib.Core.Path.{◌≡◌, refl, sym, ap, subst, ◌∙◌}
use mathlib.Core.Bool.{Bool, true, false, not, ◌&&◌, ◌||◌, true≢false}
use mathlib.Core.List.{List}
use lib.ListN.{length, get_or}
use lib.IntN.{ℤ, pos, ◌+ℤ◌, +ℤ_comm, +ℤ_idl, +ℤ_idr}
use lib.Signed.{lt_z}
use Rattle.ring.specs.declared.Point.{Point}
use Rattle.ring.specs.declared.counting.Count.{Count}
use Rattle.ring.specs.Columns.{points, IsRing}
use Rattle.ring.specs.Rings.{at, Weight, total, ring_sum}
use Rattle.ring.specs.Crossings.{crossing}
use Rattle.ring.specs.Turns.{winding}
use Rattle.ring.specs.Segment.{on_segment}
use Rattle.ring.specs.Locate.{on_edge}
use Rattle.ring.specs.Walk.{Counts, none, Counted, Free}
use Rattle.ring.proofs.Points.{length-points, point_at}
use Rattle.ring.proofs.Crossings.{above-row, below_row, crossings-winding}
use Rattle.ring.proofs.Sums.{total_falls}
use Rattle.ring.proofs.Vertices.{at-end}
use Rattle.columns.specs.declared.rows.Crossed.{Crossed}
use Rattle.columns.specs.Rows.{preceding, low_at, apart_at, rises_to, falls_to, Scanned, Twice}
use Rattle.columns.proofs.Scans.{Only, only_one}

-- ---- the vertex before another, and the edge from it

pub preceding-less : (n j : ℕ) → j < n → preceding n j < n
preceding-less n zero h = omega arith
preceding-less n (suc j) h = omega arith

pub preceding-next : (P : List Point) (n j : ℕ) → length P ≡ n → j < n → at P (suc (preceding n j)) ≡ at P j
preceding-next P n zero size h = ap (at P) (let e : suc (n - 1) ≡ length P = omega (arith, size, h) in e) ∙ at-end P (omega (arith, size, h))
preceding-next P n (suc j) size h = refl

preceding-same : (n i j : ℕ) → i < n → j < n → preceding n i ≡ preceding n j → i ≡ j
preceding-same n zero zero g h e = refl
preceding-same n zero (suc j) g h e = absurd (let f : ⊥ = omega (arith, e, h) in f)
preceding-same n (suc i) zero g h e = absurd (let f : ⊥ = omega (arith, e, g) in f)
preceding-same n (suc i) (suc j) g h e = ap suc e

-- the vertex that edge e leads to
record Led (n e : ℕ) : Type 0 where
  vertex : ℕ
  within : vertex < n
  back : preceding n vertex ≡ e

leads : (n e : ℕ) → e < n → Led n e
leads n e h = elim (dec_lt (suc e) n) [
  | yes low ↦ record { vertex = suc e; within = low; back = refl }
  | no high ↦ record { vertex = 0; within = omega arith; back = omega arith }
]

-- ---- sums of which only one term is not 0, or two

module _ (f : Weight) (s : ℕ → Point) where
  abbrev Nothing : ℕ → Type 0
  Nothing j = f (s j) (s (suc j)) ≡ pos 0

  total-one : (k a : ℕ) → a < k → ((j : ℕ) → j < k → (j ≡ a → ⊥) → Nothing j) → total f s k ≡ f (s a) (s (suc a))
  unfolding total
  total-one zero a h rest = absurd (let e : ⊥ = omega arith in e)
  total-one (suc k) a h rest = elim (dec_lt a k) [
    | yes low ↦
        (λ i. total-one k a low (λ j l. rest j (omega arith)) i +ℤ rest k (omega arith) (λ e. let g : ⊥ = omega (arith, e, low) in g) i)
        ∙ +ℤ_idr (f (s a) (s (suc a)))
    | no high ↦
        let here : a ≡ k = omega (arith, h, high) in
        ap (λ (z : ℤ). z +ℤ f (s k) (s (suc k))) (total_falls f (λ p. pos 0) s k (λ j l. rest j (omega arith) (λ e. let g : ⊥ = omega (arith, e, l, here) in g)))
        ∙ +ℤ_idl (f (s k) (s (suc k)))
        ∙ ap (λ (j : ℕ). f (s j) (s (suc j))) (sym here)
  ]

  total-two : (k a b : ℕ) → a < k → b < k → (a ≡ b → ⊥) → ((j : ℕ) → j < k → (j ≡ a → ⊥) → (j ≡ b → ⊥) → Nothing j) → total f s k ≡ f (s a) (s (suc a)) +ℤ f (s b) (s (suc b))
  unfolding total
  total-two zero a b g h apart rest = absurd (let e : ⊥ = omega arith in e)
  total-two (suc k) a b g h apart rest = elim (dec_lt a k) [
    | yes low ↦ elim (dec_lt b k) [
      | yes also ↦
          (λ i. total-two k a b low also apart (λ j l. rest j (omega arith)) i +ℤ rest k (omega arith) (λ e. let c : ⊥ = omega (arith, e, low) in c) (λ e. let c : ⊥ = omega (arith, e, also) in c) i)
          ∙ +ℤ_idr (f (s a) (s (suc a)) +ℤ f (s b) (s (suc b)))
      | no high ↦
          let here : b ≡ k = omega (arith, h, high) in
          (λ i. total-one k a low (λ j l m. rest j (omega arith) m (λ e. let c : ⊥ = omega (arith, e, l, here) in c)) i +ℤ f (s (sym here i)) (s (suc (sym here i))))
    ]
    | no high ↦
        let here : a ≡ k = omega (arith, g, high) in
        let behind : b < k = elim (dec_lt b k) [ yes low ↦ low | no top ↦ absurd (apart (omega (arith, here, h, top))) ] in
        (λ i. total-one k b behind (λ j l m. rest j (omega arith) (λ e. let c : ⊥ = omega (arith, e, l, here) in c) m) i +ℤ f (s (sym here i)) (s (suc (sym here i))))
        ∙ +ℤ_comm (f (s b) (s (suc b))) (f (s a) (s (suc a)))
  ]

-- ---- two edges that alone count

-- edge e does not hold R, and counts nothing
abbrev Unmet : List Point → Point → ℕ → Type 0
Unmet P R e = (on_edge P R e ≡ false) × (crossing R (at P e) (at P (suc e)) ≡ pos 0)

module _ (P : List Point) (R : Point) (n a b : ℕ) (size : length P ≡ n) (first : a < n) (second : b < n) (apart : a ≡ b → ⊥) where
  weighed : (e : ℕ) → total (crossing R) (λ j. at P (e + j)) 1 ≡ crossing R (at P e) (at P (suc e))
  unfolding total
  weighed e = (λ x. pos 0 +ℤ crossing R (at P (add-zero e x)) (at P (add-one e x))) ∙ +ℤ_idl (crossing R (at P e) (at P (suc e)))

  pub counted-two : (u v : Count) → ((e : ℕ) → e < n → (e ≡ a → ⊥) → (e ≡ b → ⊥) → Unmet P R e) → Counts P R a 1 none u → Counts P R b 1 u v → Counted P R v
  unfolding ring_sum
  counted-two u v rest p q = record { turns = turned; clear = λ h. let later = q.clear h in all (p.clear later.0).1 later.1; few = omega (arith, p.few, q.few) }
    where
      part : (e : ℕ) → e < n → Free P R 0 (length P) → Free P R e 1
      part e h free j l = ap (on_edge P R) (sym (zero-add (e + j))) ∙ free (e + j) (omega (arith, size, h, l))

      turned : Free P R 0 (length P) → v.turns ≡ winding P R
      turned free =
          q.turns (part b second free)
          ∙ (λ i. (p.turns (part a first free) ∙ +ℤ_idl _ ∙ weighed a) i +ℤ weighed b i)
          ∙ sym (total-two (crossing R) (at P) n a b first second apart (λ e h l m. (rest e h l m).1))
          ∙ ap (total (crossing R) (at P)) (sym size)
          ∙ crossings-winding P R (omega (arith, size, first)) (λ e h. ap (on_edge P R) (sym (zero-add e)) ∙ free e h)

      all : Free P R a 1 → Free P R b 1 → Free P R 0 (length P)
      all f g e h = elim (ℕ_discrete e a) [
        | yes same ↦ ap (on_edge P R) (let i : 0 + e ≡ a + 0 = omega (arith, same) in i) ∙ f 0 (omega arith)
        | no other ↦ elim (ℕ_discrete e b) [
          | yes same ↦ ap (on_edge P R) (let i : 0 + e ≡ b + 0 = omega (arith, same) in i) ∙ g 0 (omega arith)
          | no neither ↦ ap (on_edge P R) (zero-add e) ∙ (rest e (omega (arith, size, h)) other neither).0
        ]
      ]

-- ---- a ring that was scanned

-- an edge that neither rises nor falls, with no end on the row: p and q are the ends' numbers
level : (R A B : Point) (p q : ℤ) → A.y ≡ p → B.y ≡ q → (lt_z p R.y && not (lt_z q R.y)) ≡ false → (not (lt_z p R.y) && lt_z q R.y) ≡ false
    → (lt_z p R.y || lt_z R.y p) ≡ true → (lt_z q R.y || lt_z R.y q) ≡ true → (on_segment R A B ≡ false) × (crossing R A B ≡ pos 0)
level R A B p q e f = go (lt_z p R.y) (lt_z q R.y) refl refl
  where
    go : (a b : Bool) → lt_z p R.y ≡ a → lt_z q R.y ≡ b → (a && not b) ≡ false → (not a && b) ≡ false → (a || lt_z R.y p) ≡ true → (b || lt_z R.y q) ≡ true → (on_segment R A B ≡ false) × (crossing R A B ≡ pos 0)
    go true true c d g h k l = below_row R A B (ap (λ (z : ℤ). lt_z z R.y) e ∙ c) (ap (λ (z : ℤ). lt_z z R.y) f ∙ d)
    go true false c d g h k l = absurd (true≢false g)
    go false true c d g h k l = absurd (true≢false h)
    go false false c d g h k l = above-row R A B (ap (λ (z : ℤ). lt_z R.y z) e ∙ k) (ap (λ (z : ℤ). lt_z R.y z) f ∙ l)

-- no edge both rises and falls
not-both : (a b : Bool) → (a && not b) ≡ true → (not a && b) ≡ true → ⊥
not-both true b g h = true≢false (sym h)
not-both false b g h = true≢false (sym g)

module _ (xs ys : List ℤ) (R : Point) (ring : IsRing xs ys) (s : Crossed) (scanned : Scanned ys R.y s) (twice : Twice s) (up down : ℕ) (rises : s.rises ≡ 65536 + up) (falls : s.falls ≡ 65536 + down) where
  abbrev P : List Point
  P = points xs ys

  abbrev even : length xs ≡ length ys
  even = ring.even

  rising : Only (rises_to ys R.y) (length ys) up
  rising = only_one (rises_to ys R.y) (length ys) s.rises up scanned.rises twice.rises rises

  falling : Only (falls_to ys R.y) (length ys) down
  falling = only_one (falls_to ys R.y) (length ys) s.falls down scanned.falls twice.falls falls

  size : length P ≡ length ys
  size = length-points xs ys even ∙ even

  height : (j : ℕ) → j < length ys → (at P j).y ≡ get_or ys j (pos 0)
  height j h = ap (λ p. p.y) (point_at xs ys j even (omega (arith, h, even)))

  apart : (j : ℕ) → j < length ys → apart_at ys R.y j ≡ true
  apart = scanned.apart twice.apart

  -- edges that lead to other vertices
  passed : (j : ℕ) → j < length ys → (j ≡ up → ⊥) → (j ≡ down → ⊥) → Unmet P R (preceding (length ys) j)
  passed j h l m =
      let i = preceding (length ys) j in
      let within = preceding-less (length ys) j h in
      level R (at P i) (at P (suc i)) (get_or ys i (pos 0)) (get_or ys j (pos 0)) (height i within) (ap (λ p. p.y) (preceding-next P (length ys) j size h) ∙ height j h)
      (rising.others j h l) (falling.others j h m) (apart i within) (apart j h)

  others : (e : ℕ) → e < length ys → (e ≡ preceding (length ys) up → ⊥) → (e ≡ preceding (length ys) down → ⊥) → Unmet P R e
  others e h l m =
      let to = leads (length ys) e h in
      subst (λ i. Unmet P R i) to.back (passed to.vertex to.within (λ same. l (sym to.back ∙ ap (preceding (length ys)) same)) (λ same. m (sym to.back ∙ ap (preceding (length ys)) same)))

  different : preceding (length ys) up ≡ preceding (length ys) down → ⊥
  different e =
      let same = preceding-same (length ys) up down rising.within falling.within e in
      not-both (low_at ys R.y (preceding (length ys) down)) (low_at ys R.y down) (subst (λ j. rises_to ys R.y j ≡ true) same rising.hit) falling.hit

  pub counted-twice : (u v : Count) → Counts P R (preceding (length xs) up) 1 none u → Counts P R (preceding (length xs) down) 1 u v → Counted P R v
  counted-twice u v p q =
      counted-two P R (length ys) (preceding (length ys) up) (preceding (length ys) down) size (preceding-less (length ys) up rising.within) (preceding-less (length ys) down falling.within) different u v others
      (subst (λ n. Counts P R (preceding n up) 1 none u) even p)
      (subst (λ n. Counts P R (preceding n down) 1 u v) even q)
