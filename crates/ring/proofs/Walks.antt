-- What was counted along some edges of a ring: along none, along one, past a block of them, along one part and then the next, and all the way round. Assumes nothing.
use Prim.Native.Nat.{ℕ, suc, ◌+◌, ◌-◌, ◌≤◌, ◌<◌}
use native.Mathlib.Omega.{arith}
use native.Mathlib.Decide.{dec_lt}
use native.Mathlib.Nat.{add_assoc, add-zero, add-suc, zero-add}
use native.Mathlib.Numerals.{add-one}
use mathlib.Core.Path.{◌≡◌, refl, sym, ap, subst, ◌∙◌}
use mathlib.Core.Bool.{Bool, true, false, ◌&&◌, ◌||◌, beq, true≢false}
use mathlib.Core.List.{List}
use lib.ListN.{length}
use lib.IntN.{ℤ, pos, nat_abs, ◌+ℤ◌, ◌-ℤ◌, +ℤ_assoc, +ℤ_comm, +ℤ_idl, +ℤ_idr, +ℤ_invr}
use lib.Signed.{lt_z}
use Rattle.exact.specs.Sign.{Sign, minus, nought, plus, sign, eq_z, cross}
use Rattle.exact.proofs.Bounds.{nat_abs-add}
use Rattle.exact.proofs.Signs.{is_plus, is_minus, lt-sign, gt-sign}
use Rattle.ring.specs.declared.Point.{Point}
use Rattle.ring.specs.declared.counting.End.{End}
use Rattle.ring.specs.declared.counting.Count.{Count}
use Rattle.ring.specs.Choices.{pick, count}
use Rattle.ring.specs.Rings.{at, total, ring_sum}
use Rattle.ring.specs.Turns.{determinant}
use Rattle.ring.specs.Crossings.{below, crossing, steps}
use Rattle.ring.specs.Segment.{on_segment}
use Rattle.ring.specs.Locate.{on_edge}
use Rattle.ring.specs.Walk.{Sight, Gone, Free, Counts, Aside, north, south, east, west, none, Counted}
use Rattle.ring.proofs.Pick.{pick_true, pick-false}
use Rattle.ring.proofs.OnGrid.{way-determinant}
use Rattle.ring.proofs.Sums.{total-split, total_falls}
use Rattle.ring.proofs.Crossings.{below-sign, plus-sign, minus-sign, steps-crossing, marks-few, counted-few, determinant-off, above-row, below_row, west-of, east-of, crossings-winding}

-- ---- a vertex as seen from R

sight-below : (R P : Point) (e : End) → Sight R P e → lt_z e.way.y (pos 0) ≡ below R P
sight-below R P e s = ap (λ (z : ℤ). lt_z z (pos 0)) s.way.y ∙ minus-sign (P.y -ℤ R.y) ∙ sym (below-sign R P)

sight-east : (R P : Point) (e : End) → Sight R P e → lt_z (pos 0) e.way.x ≡ lt_z R.x P.x
sight-east R P e s = ap (λ (z : ℤ). lt_z (pos 0) z) s.way.x ∙ plus-sign (P.x -ℤ R.x) ∙ sym (lt-sign R.x P.x)

sight-low : (R P : Point) (e : End) → Sight R P e → e.low ≡ pos (count (below R P))
sight-low R P e s = s.marked ∙ ap (λ (b : Bool). pos (count b)) (sight-below R P e s)

-- ---- a test of several vertices, made one after the other

-- if b, each of the first k passes
abbrev pub Tells : Bool → (ℕ → Bool) → ℕ → Type 0
Tells b p k = b ≡ true → (j : ℕ) → j < k → p j ≡ true

pub tells_none : (p : ℕ → Bool) → Tells true p 0
tells_none p e j h = absurd (let f : ⊥ = omega arith in f)

pub tells_more : (b t : Bool) (p : ℕ → Bool) (k : ℕ) → t ≡ p k → Tells b p k → Tells (b && t) p (k + 1)
tells_more b t p k e told h j l = elim (dec_lt j k) [ yes low ↦ told (both b t h).0 j low | no high ↦ ap p (let s : j ≡ k = omega arith in s) ∙ sym e ∙ (both b t h).1 ]
  where
    both : (b t : Bool) → (b && t) ≡ true → (b ≡ true) × (t ≡ true)
    both true t h = (refl, h)
    both false t h = (h, absurd (true≢false (sym h)))

-- ---- parts put together

module _ (P : List Point) (R : Point) where
  pub counts-none : (i : ℕ) (c : Count) → Counts P R i 0 c c
  unfolding total
  counts-none i c = record { turns = λ free. sym (+ℤ_idr c.turns); clear = λ h. (h, λ j l. absurd (let f : ⊥ = omega arith in f)); few = omega arith }

  free-front : (i j k : ℕ) → Free P R i (j + k) → Free P R i j
  free-front i j k free m h = free m (omega arith)

  free_back : (i j k : ℕ) → Free P R i (j + k) → Free P R (i + j) k
  free_back i j k free m h = ap (on_edge P R) (add_assoc i j m) ∙ free (j + m) (omega arith)

  free-both : (i j k : ℕ) → Free P R i j → Free P R (i + j) k → Free P R i (j + k)
  free-both i j k front back m h = elim (dec_lt m j) [
    | yes low ↦ front m low
    | no high ↦
        let e : i + m ≡ (i + j) + (m - j) = omega arith in
        ap (on_edge P R) e ∙ back (m - j) (omega arith)
  ]

  pub counts-on : (i j k : ℕ) (c v w : Count) → Counts P R i j c v → Counts P R (i + j) k v w → Counts P R i (j + k) c w
  counts-on i j k c v w p q = record {
    turns = λ free.
        q.turns (free_back i j k free)
        ∙ ap (λ (z : ℤ). z +ℤ total (crossing R) (λ m. at P (i + j + m)) k) (p.turns (free-front i j k free))
        ∙ +ℤ_assoc c.turns (total (crossing R) (λ m. at P (i + m)) j) (total (crossing R) (λ m. at P (i + j + m)) k)
        ∙ ap (λ (z : ℤ). c.turns +ℤ z) ((λ x. total (crossing R) (λ m. at P (i + m)) j +ℤ total (crossing R) (λ m. at P (add_assoc i j m x)) k) ∙ sym (total-split (crossing R) (λ m. at P (i + m)) j k));
    clear = λ h.
        let back = q.clear h in
        let front = p.clear back.0 in
        (front.0, free-both i j k front.1 back.1);
    few = omega (arith, p.few, q.few);
  }

  -- the first edges, and then some more
  pub counts-more : (i k m : ℕ) (c v w : Count) → i + k ≡ m → Counts P R 0 i c v → Counts P R i k v w → Counts P R 0 m c w
  counts-more i k m c v w e p q = subst (λ n. Counts P R 0 n c w) e (counts-on 0 i k c v w p (subst (λ n. Counts P R n k v w) (sym (zero-add i)) q))

  -- ---- one edge

  cleared : (b : Bool) (n : ℕ) → 0 < pick b 0 n → (b ≡ false) × (0 < n)
  cleared true n h = absurd (let f : ⊥ = omega arith in f)
  cleared false n h = (refl, h)

  pub counts-edge : (i : ℕ) (e f : End) (c v : Count) → Sight R (at P i) e → Sight R (at P (i + 1)) f → Gone e f c v → Counts P R i 1 c v
  unfolding total
  counts-edge i e f c v s t g = record {
    turns = λ free.
        turned
        ∙ ap (λ (z : ℤ). c.turns +ℤ z) (steps-crossing R (at P i) (at P (i + 1)) (ap (λ (k : ℕ). on_segment R (at P i) (at P k)) (add-one i) ∙ sym (ap (on_edge P R) (add-zero i)) ∙ free 0 (omega arith)))
        ∙ ap (λ (z : ℤ). c.turns +ℤ z) (sym ((λ x. pos 0 +ℤ crossing R (at P (add-zero i x)) (at P (i + 1))) ∙ +ℤ_idl (crossing R (at P i) (at P (i + 1)))));
    clear = λ h.
        let told = cleared (eq_z (determinant R (at P i) (at P (i + 1))) (pos 0)) c.clear (subst (λ (n : ℕ). 0 < n) (g.clear ∙ ap (λ (d : ℤ). pick (eq_z d (pos 0)) 0 c.clear) line) h) in
        (told.1, λ j l. ap (on_edge P R) (let z : i + j ≡ i = omega arith in z) ∙ ap (λ (k : ℕ). on_segment R (at P i) (at P k)) (sym (add-one i)) ∙ determinant-off R (at P i) (at P (i + 1)) told.0);
    few = subst (λ (z : ℤ). nat_abs z ≤ nat_abs c.turns + 1) (sym turned) (omega (arith, nat_abs-add c.turns added, counted-few (beq (lt_z (determinant R (at P i) (at P (i + 1))) (pos 0)) (below R (at P (i + 1)))) (below R (at P i)) (below R (at P (i + 1)))));
  }
    where
      line : cross e.way f.way ≡ determinant R (at P i) (at P (i + 1))
      line = way-determinant R (at P i) (at P (i + 1)) e.way f.way s.way t.way

      added : ℤ
      added = steps (determinant R (at P i) (at P (i + 1))) (below R (at P i)) (below R (at P (i + 1)))

      turned : v.turns ≡ c.turns +ℤ added
      turned = g.turns ∙ (λ x. c.turns +ℤ steps (line x) (sight-below R (at P i) e s x) (sight-below R (at P (i + 1)) f t x))

  -- ---- a block that R's row or column misses

  -- four tests of more than k vertices, one of which passes
  pub told-aside : (i k m : ℕ) → k < m → (n s e w : Bool)
      → Tells n (λ j. lt_z R.y (at P (i + j)).y) m → Tells s (λ j. lt_z (at P (i + j)).y R.y) m
      → Tells e (λ j. lt_z R.x (at P (i + j)).x) m → Tells w (λ j. lt_z (at P (i + j)).x R.x) m
      → ((n || s) || (e || w)) ≡ true → Aside P R i k
  told-aside i k m h true s e w a b c d t = north (λ j l. a refl j (omega arith))
  told-aside i k m h false true e w a b c d t = south (λ j l. b refl j (omega arith))
  told-aside i k m h false false true w a b c d t = east (λ j l. c refl j (omega arith))
  told-aside i k m h false false false w a b c d t = west (λ j l. d t j (omega arith))

  -- the edges count as g falls along them, and none of them holds R
  abbrev Falling : ℕ → ℕ → (Point → ℤ) → Type 0
  Falling i k g = (j : ℕ) → j < k → (on_segment R (at P (i + j)) (at P (i + suc j)) ≡ false) × (crossing R (at P (i + j)) (at P (i + suc j)) ≡ g (at P (i + j)) -ℤ g (at P (i + suc j)))

  counts-falling : (i k : ℕ) (g : Point → ℤ) (c v : Count) → Falling i k g → v.turns ≡ c.turns +ℤ (g (at P i) -ℤ g (at P (i + k))) → nat_abs (g (at P i) -ℤ g (at P (i + k))) ≤ k → v.clear ≡ c.clear → Counts P R i k c v
  counts-falling i k g c v f e few same = record {
    turns = λ free. e ∙ ap (λ (z : ℤ). c.turns +ℤ z) (ap (λ (m : ℕ). g (at P m) -ℤ g (at P (i + k))) (sym (add-zero i)) ∙ sym (total_falls (crossing R) g (λ j. at P (i + j)) k (λ j h. (f j h).1)));
    clear = λ h. (subst (λ (n : ℕ). 0 < n) same h, λ j l. ap (λ (m : ℕ). on_segment R (at P (i + j)) (at P m)) (sym (add-suc i j)) ∙ (f j l).0);
    few = subst (λ (z : ℤ). nat_abs z ≤ nat_abs c.turns + k) (sym e) (omega (arith, nat_abs-add c.turns (g (at P i) -ℤ g (at P (i + k)))));
  }

  -- nothing is counted
  counts-nothing : (i k : ℕ) (c v : Count) → ((j : ℕ) → j < k → (on_segment R (at P (i + j)) (at P (i + suc j)) ≡ false) × (crossing R (at P (i + j)) (at P (i + suc j)) ≡ pos 0)) → v.turns ≡ c.turns → v.clear ≡ c.clear → Counts P R i k c v
  counts-nothing i k c v f e = counts-falling i k (λ p. pos 0) c v f (e ∙ sym (+ℤ_idr c.turns)) (omega arith)

  not-both : (a x : ℤ) → lt_z a x ≡ true → lt_z x a ≡ false
  not-both a x e = gt-sign a x ∙ go (sign (x -ℤ a)) (sym (lt-sign a x) ∙ e)
    where
      go : (s : Sign) → is_plus s ≡ true → is_minus s ≡ false
      go minus h = sym h
      go nought h = refl
      go plus h = refl

  -- what `past` has added to the count, of ends that were seen
  pub counts_past : (i k : ℕ) (e f : End) (c v : Count) → 0 < k → Aside P R i k → Sight R (at P i) e → Sight R (at P (i + k)) f
      → v.turns ≡ c.turns +ℤ pick (lt_z (pos 0) e.way.x) (e.low -ℤ f.low) (pos 0) → v.clear ≡ c.clear → Counts P R i k c v
  counts_past i k e f c v some side s t added same = go side
    where
      -- the ends' marks
      first : Bool
      first = below R (at P i)

      last : Bool
      last = below R (at P (i + k))

      told : v.turns ≡ c.turns +ℤ pick (lt_z R.x (at P i).x) (pos (count first) -ℤ pos (count last)) (pos 0)
      told = added ∙ (λ x. c.turns +ℤ pick (sight-east R (at P i) e s x) (sight-low R (at P i) e s x -ℤ sight-low R (at P (i + k)) f t x) (pos 0))

      level : (b : Bool) → first ≡ b → last ≡ b → v.turns ≡ c.turns
      level b p q = told ∙ (λ x. c.turns +ℤ pick (lt_z R.x (at P i).x) (pos (count (p x)) -ℤ pos (count (q x))) (pos 0)) ∙ flat (lt_z R.x (at P i).x)
        where
          flat : (y : Bool) → c.turns +ℤ pick y (pos (count b) -ℤ pos (count b)) (pos 0) ≡ c.turns
          flat true = ap (λ (z : ℤ). c.turns +ℤ z) (+ℤ_invr (pos (count b))) ∙ +ℤ_idr c.turns
          flat false = +ℤ_idr c.turns

      -- a fact about every vertex of the block, at the first
      at_first : (p : Point → Type 0) → ((j : ℕ) → j ≤ k → p (at P (i + j))) → p (at P i)
      at_first p all = subst (λ (m : ℕ). p (at P m)) (add-zero i) (all 0 (omega arith))

      go : Aside P R i k → Counts P R i k c v
      go (north all) = counts-nothing i k c v (λ j h. above-row R (at P (i + j)) (at P (i + suc j)) (all j (omega arith)) (all (suc j) h))
          (level false (not-both R.y (at P i).y (at_first (λ p. lt_z R.y p.y ≡ true) all)) (not-both R.y (at P (i + k)).y (all k (omega arith)))) same
      go (south all) = counts-nothing i k c v (λ j h. below_row R (at P (i + j)) (at P (i + suc j)) (all j (omega arith)) (all (suc j) h))
          (level true (at_first (λ p. lt_z p.y R.y ≡ true) all) (all k (omega arith))) same
      go (east all) = counts-falling i k (λ p. pos (count (below R p))) c v (λ j h. east-of R (at P (i + j)) (at P (i + suc j)) (all j (omega arith)) (all (suc j) h))
          (told ∙ ap (λ (z : ℤ). c.turns +ℤ z) (pick_true (at_first (λ p. lt_z R.x p.x ≡ true) all) _ _))
          (omega (arith, marks-few first last)) same
      go (west all) = counts-nothing i k c v (λ j h. west-of R (at P (i + j)) (at P (i + suc j)) (all j (omega arith)) (all (suc j) h))
          (told ∙ ap (λ (z : ℤ). c.turns +ℤ z) (pick-false (not-both (at P i).x R.x (at_first (λ p. lt_z p.x R.x ≡ true) all)) _ _) ∙ +ℤ_idr c.turns) same

  -- ---- all the way round

  -- the closing edge, and then the others
  pub counts_all : (c v : Count) → 1 ≤ length P → length P ≤ 2048 → Counts P R (length P - 1) 1 none c → Counts P R 0 (length P - 1) c v → Counted P R v
  unfolding ring_sum
  counts_all c v some most p q = record {
    turns = λ free. turned free ∙ crossings-winding P R some (λ i h. ap (on_edge P R) (sym (zero-add i)) ∙ free i h);
    clear = λ h. let rest = q.clear h in whole (p.clear rest.0).1 rest.1;
    few = omega (arith, p.few, q.few);
  }
    where
      n : ℕ
      n = length P

      whole : Free P R (n - 1) 1 → Free P R 0 (n - 1) → Free P R 0 (length P)
      whole last rest j h = elim (dec_lt j (n - 1)) [
        | yes low ↦ rest j low
        | no high ↦ ap (on_edge P R) (let e : 0 + j ≡ n - 1 + 0 = omega (arith, some, h, high) in e) ∙ last 0 (omega arith)
      ]

      turned : Free P R 0 (length P) → v.turns ≡ ring_sum (crossing R) P
      turned free =
          let front = total (crossing R) (at P) (n - 1) in
          let last = total (crossing R) (λ j. at P (n - 1 + j)) 1 in
          q.turns (λ j h. free j (omega (arith, some)))
          ∙ (λ x. p.turns (λ j h. ap (on_edge P R) (let e : n - 1 + j ≡ 0 + (n - 1 + j) = omega arith in e) ∙ free (n - 1 + j) (omega (arith, some))) x +ℤ total (crossing R) (λ j. at P (zero-add j x)) (n - 1))
          ∙ ap (λ (z : ℤ). z +ℤ front) (+ℤ_idl last)
          ∙ +ℤ_comm last front
          ∙ sym (total-split (crossing R) (at P) (n - 1) 1)
          ∙ ap (total (crossing R) (at P)) (let e : n - 1 + 1 ≡ length P = omega (arith, some) in e)
