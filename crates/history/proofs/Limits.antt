-- Every register that calls make is within the rules' limits. Assumes nothing.
use Prim.Native.Nat.{ℕ, zero, suc, ◌+◌, ◌%◌, ◌/◌, ◌≤◌, ◌<◌}
use native.Mathlib.Decide.{dec_lt, ℕ_discrete}
use native.Mathlib.Omega.{arith}
use mathlib.Core.Path.{◌≡◌, refl, sym, ap, subst, ◌∙◌}
use mathlib.Core.Bool.{true, false, ◌||◌}
use mathlib.Core.List.{List, ◌++◌, reverse}
use lib.Dec.{eqb, ltb}
use lib.IntN.{ℤ}
use lib.ListN.{length, set, length-set, length-append, length-reverse, get_or-eq_default}
use lib.Seq.{get_or-set_same, get_or-set_other}
use borrow.Author.Tests.{eqb-false, ltb-false, ne_eqb}
use Rattle.ring.specs.declared.Point.{Point}
use Rattle.ring.specs.Grid.{vertices, no_ring, some_beyond}
use Rattle.ring.specs.Choices.{pick}
use Rattle.ring.proofs.Pick.{pick-false, neither_left, neither_right}
use Rattle.districts.specs.Counts.{sum_to}
use Rattle.districts.specs.Register.{Slot, unused, ring, Register, slot, in_use, vertices_of}
use Rattle.districts.proofs.Counting.{term-most}
use Rattle.districts.proofs.Meaning.{list_at, list-past, list-long}
use Rattle.districts.proofs.Sums.{sum_same, sum-zero}
use Rattle.refusals.specs.Verdicts.{accept}
use Rattle.refusals.proofs.Verdicts.{accepted}
use Rattle.register.specs.Founding.{founded}
use Rattle.room.specs.Runs.{run, steps}
use Rattle.room.specs.Writing.{numbers_of}
use Rattle.room.proofs.Parts.{both-on-grid, sum-but-one}
use Rattle.room.proofs.Written.{run_length, numbers-vertices}
use Rattle.judging.specs.Splitting.{piece_one, piece_two, lowest_unused, vertex_count}
use Rattle.changes.specs.Afterwards.{split, merge}
use Rattle.judging.specs.Merging.{merged}
use Rattle.changes.proofs.Grids.{run-on-grid, reverse-on-grid}
use Rattle.judging.proofs.Judged.{vertices-half}
use Rattle.judging.proofs.Matched.{merged_long}
use Rattle.judging.proofs.Sums.{steps-round}
use Rattle.history.specs.Histories.{Call, founding, splitting, merging, reporting, empty, judged, made, after}
use Rattle.history.specs.Limits.{Allowed, Within}
use Rattle.history.proofs.Every.{every}
use Rattle.judging.proofs.Told.{used-below, split-told, merge-told}
use Rattle.history.proofs.Balanced.{new-unused}
use Rattle.history.proofs.Alone.{sum-front}

-- how many vertices a slot has
abbrev many : Slot → ℕ
many s = length (vertices_of s)

-- a ring of a district has at most as many vertices as all together
ring-most : (g : Register) (d : ℕ) → length g.districts ≡ 64 → many (slot g d) ≤ vertex_count g
unfolding vertex_count
ring-most g d full = elim (dec_lt d 64) [
  | yes less ↦ term-most (λ k. many (slot g k)) 64 d less
  | no more ↦
      let none : many (slot g d) ≡ 0 = ap many (get_or-eq_default g.districts unused (omega (arith, more, full))) in
      omega (arith, none)
]

-- ---- two slots are exchanged

module _ (g : Register) (d e : ℕ) (s t : Slot) (full : length g.districts ≡ 64) (below : d < 64) (other : e < 64) (differ : e ≡ d → ⊥) where
  changed : Register
  changed = record { outline = g.outline; districts = set (set g.districts d s) e t }

  at_second : slot changed e ≡ t
  unfolding changed
  at_second = get_or-set_same (set g.districts d s) e t unused (omega (arith, full, length-set g.districts d s))

  at_first : slot changed d ≡ s
  unfolding changed
  at_first = get_or-set_other (set g.districts d s) e d t unused (λ f. differ (sym f)) ∙ get_or-set_same g.districts d s unused (omega (arith, full))

  elsewhere : (k : ℕ) → (k ≡ d → ⊥) → (k ≡ e → ⊥) → slot changed k ≡ slot g k
  unfolding changed
  elsewhere k f h = get_or-set_other (set g.districts d s) e k t unused h ∙ get_or-set_other g.districts d k s unused f

  one : Register
  one = record { outline = g.outline; districts = set g.districts d s }

  counts : vertex_count changed + (many (slot g d) + many (slot g e)) ≡ vertex_count g + (many s + many t)
  unfolding changed one vertex_count
  counts =
      let first : sum_to 64 (λ k. many (slot one k)) + many (slot g d) ≡ sum_to 64 (λ k. many (slot g k)) + many (slot one d) =
      sum-but-one (λ k. many (slot one k)) (λ k. many (slot g k)) 64 d below (λ k h f. ap many (get_or-set_other g.districts d k s unused f)) in
      let second : sum_to 64 (λ k. many (slot changed k)) + many (slot one e) ≡ sum_to 64 (λ k. many (slot one k)) + many (slot changed e) =
      sum-but-one (λ k. many (slot changed k)) (λ k. many (slot one k)) 64 e other (λ k h f. ap many (get_or-set_other (set g.districts d s) e k t unused f)) in
      let its : many (slot one d) ≡ many s = ap many (get_or-set_same g.districts d s unused (omega (arith, full))) in
      let old : many (slot one e) ≡ many (slot g e) = ap many (get_or-set_other g.districts d e s unused differ) in
      let new : many (slot changed e) ≡ many t = ap many at_second in
      omega (arith, first, second, its, old, new)

  all-long : length changed.districts ≡ 64
  unfolding changed
  all-long = length-set (set g.districts d s) e t ∙ length-set g.districts d s ∙ full

  first-most : vertex_count changed ≤ 2048 → many s ≤ 2048
  first-most most = let its = ring-most changed d all-long in omega (arith, most, its, ap many at_first)

  second-most : vertex_count changed ≤ 2048 → many t ≤ 2048
  second-most most = let its = ring-most changed e all-long in omega (arith, most, its, ap many at_second)

  -- the limits are kept where the new slots keep them
  changed-within : Within g → in_use g.outline ≡ true → Allowed s → Allowed t → vertex_count changed ≤ 2048 → Within changed
  unfolding changed
  changed-within w outlined first second most = record {
    full = all-long;
    outline = w.outline;
    rings = λ k. elim (ℕ_discrete k e) [
      | yes last ↦ subst Allowed (sym (ap (slot changed) last ∙ at_second)) second
      | no more ↦ elim (ℕ_discrete k d) [
        | yes same ↦ subst Allowed (sym (ap (slot changed) same ∙ at_first)) first
        | no rest ↦ subst Allowed (sym (elsewhere k rest more)) (w.rings k)
      ]
    ];
    most = most;
    beside = λ none. let clash : ◌≡◌ {A = ℕ} 0 1 = ap (λ b. pick b 1 0) (sym none ∙ outlined) in absurd (let f : ⊥ = omega arith in f);
  }

-- ---- coordinates of the grid

path-on-grid : (path : List ℤ) → length path % 2 ≡ 0 → some_beyond path ≡ false → some_beyond (numbers_of (vertices path)) ≡ false
path-on-grid path even e = ap some_beyond (numbers-vertices path (length path / 2) (omega (arith, even))) ∙ e

used-on-grid : (s : Slot) → Allowed s → some_beyond (numbers_of (vertices_of s)) ≡ false
unfolding numbers_of
used-on-grid unused a = refl
used-on-grid (ring P) a = a.2

-- ---- the calls

empty-within : Within empty
unfolding empty vertex_count
empty-within = record {
  full = list-long 64 (λ d. unused);
  outline = tt;
  rings = λ d. subst Allowed (sym (none d)) tt;
  most = let all = sum-zero (λ d. many (slot empty d)) 64 (λ d h. ap many (none d)) in omega (arith, all);
  beside = λ e d. none d;
}
  where
    none : (d : ℕ) → slot empty d ≡ unused
    none d = elim (dec_lt d 64) [
      | yes less ↦ list_at 64 (λ k. unused) unused d less
      | no more ↦ list-past 64 (λ k. unused) unused d (omega (arith, more))
    ]

-- what the acceptance of a founding tells
record Foundable (xs : List ℤ) : Type 0 where
  whole : no_ring (length xs) (length xs / 2) ≡ false
  grid : some_beyond xs ≡ false

found-told : (g : Register) (xs : List ℤ) → judged g (founding xs) ≡ accept → Foundable xs
unfolding judged
found-told g xs fine =
    let t4 = accepted 4 _ _ (accepted 3 _ _ (accepted 1 _ _ fine).1).1 in
    record { whole = t4.0; grid = (accepted 5 _ _ t4.1).0 }

founded-within : (xs : List ℤ) → Foundable xs → Within (founded xs)
unfolding founded vertex_count
founded-within xs f = record {
  full = list-long 64 only;
  outline = allowed;
  rings = λ d. elim (dec_lt d 64) [
    | yes less ↦ subst Allowed (sym (list_at 64 only unused d less)) (each d)
    | no more ↦ subst Allowed (sym (list-past 64 only unused d (omega (arith, more)))) tt
  ];
  most =
      let all = sum_same (λ d. many (slot (founded xs) d)) (λ d. many (only d)) 64 (λ d h. ap many (list_at 64 only unused d h)) in
      let front = sum-front 63 (λ d. many (only d)) in
      let none = sum-zero (λ d. many (only (suc d))) 63 (λ d h. ap many (later d)) in
      omega (arith, all, front, none, allowed.1);
  beside = λ none. let clash : ◌≡◌ {A = ℕ} 1 0 = ap (λ b. pick b 1 0) none in absurd (let f : ⊥ = omega arith in f);
}
  where
    n : ℕ
    n = length xs / 2

    only : ℕ → Slot
    only d = pick (eqb d 0) (ring (vertices xs)) unused

    later : (d : ℕ) → only (suc d) ≡ unused
    later d = pick-false (ne_eqb (suc d) 0 (λ (e : suc d ≡ 0). omega arith)) _ _

    allowed : Allowed (ring (vertices xs))
    allowed =
        let long = vertices-half xs in
        let sizes = neither_right (eqb (length xs % 2) 1) (ltb n 3 || ltb 2048 n) f.whole in
        let least = ltb-false n 3 (neither_left (ltb n 3) (ltb 2048 n) sizes) in
        let most = ltb-false 2048 n (neither_right (ltb n 3) (ltb 2048 n) sizes) in
        let not-one = eqb-false (length xs % 2) 1 (neither_left (eqb (length xs % 2) 1) (ltb n 3 || ltb 2048 n) f.whole) in
        (omega (arith, long, least), omega (arith, long, most), path-on-grid xs (omega (arith, not-one)) f.grid)

    each : (d : ℕ) → Allowed (only d)
    each zero = allowed
    each (suc d) = subst Allowed (sym (later d)) tt

-- how many vertices a piece has
piece-long : (P W : List Point) (i j k : ℕ) → length W ≡ k → length (run P i (suc (steps (length P) i j)) ++ W) ≡ suc (steps (length P) i j) + k
piece-long P W i j k e = length-append (run P i (suc (steps (length P) i j))) W ∙ (λ t. run_length P i (suc (steps (length P) i j)) t + e t)

split-within : (g : Register) (d i j : ℕ) (path : List ℤ) → Within g → judged g (splitting d i j path) ≡ accept → Within (split g d i j (vertices path))
unfolding judged split changed
split-within g d i j path w fine =
    let t = split-told true g d i j path fine in
    let P = vertices_of (slot g d) in
    let W = vertices path in
    let k = length path / 2 in
    let new = lowest_unused g in
    let free = new-unused g t.number in
    let below : d < 64 = subst (λ (n : ℕ). d < n) w.full (used-below g d t.used) in
    let long₁ = piece-long P (reverse W) i j k (length-reverse W ∙ vertices-half path) in
    let long₂ = piece-long P W j i k (vertices-half path) in
    let round = steps-round (length P) i j t.lower t.other t.differ in
    let differ : new ≡ d → ⊥ = λ e. clash (ap in_use (sym free ∙ ap (slot g) e) ∙ t.used) in
    let all = counts g d new (ring (piece_one P i j W)) (ring (piece_two P i j W)) w.full below t.number differ in
    let none : length (vertices_of (slot g new)) ≡ 0 = ap many free in
    let room : vertex_count (split g d i j W) ≤ 2048 = omega (arith, all, none, long₁, long₂, round, t.room, t.even) in
    let on-grid = used-on-grid (slot g d) (w.rings d) in
    let path-grid = path-on-grid path t.even t.grid in
    let most₁ = first-most g d new (ring (piece_one P i j W)) (ring (piece_two P i j W)) w.full below t.number differ room in
    let most₂ = second-most g d new (ring (piece_one P i j W)) (ring (piece_two P i j W)) w.full below t.number differ room in
    changed-within g d new (ring (piece_one P i j W)) (ring (piece_two P i j W)) w.full below t.number differ w t.outlined
    (t.first, most₁, both-on-grid _ _ (run-on-grid P on-grid i _) (reverse-on-grid W path-grid))
    (t.second, most₂, both-on-grid _ _ (run-on-grid P on-grid j _) path-grid)
    room
  where
    clash : false ≡ true → ⊥
    clash e = let same : ◌≡◌ {A = ℕ} 0 1 = ap (λ b. pick b 1 0) e in omega arith

merge-within : (g : Register) (A a B b k : ℕ) → Within g → judged g (merging A a B b k) ≡ accept → Within (merge g A a B b k)
unfolding judged merge changed
merge-within g A a B b k w fine =
    let t = merge-told true g A a B b k fine in
    let P = vertices_of (slot g A) in
    let Q = vertices_of (slot g B) in
    let first : A < 64 = subst (λ (n : ℕ). A < n) w.full (used-below g A t.kept) in
    let second : B < 64 = subst (λ (n : ℕ). B < n) w.full (used-below g B t.gone) in
    let differ : B ≡ A → ⊥ = λ e. t.differ (sym e) in
    let all = counts g A B (ring (merged P a Q b k)) unused w.full first second differ in
    let long = merged_long P Q a b k t.fewer t.also in
    let room : vertex_count (merge g A a B b k) ≤ 2048 = omega (arith, all, long, w.most) in
    let most = first-most g A B (ring (merged P a Q b k)) unused w.full first second differ room in
    changed-within g A B (ring (merged P a Q b k)) unused w.full first second differ w t.outlined
    (t.enough, most, both-on-grid _ _ (run-on-grid P (used-on-grid (slot g A) (w.rings A)) _ _) (run-on-grid Q (used-on-grid (slot g B) (w.rings B)) _ _))
    tt
    room

keeps : (g : Register) (c : Call) → Within g → judged g c ≡ accept → Within (made g c)
unfolding made
keeps g (founding xs) w fine = founded-within xs (found-told g xs fine)
keeps g (splitting d i j path) w fine = split-within g d i j path w fine
keeps g (merging A a B b k) w fine = merge-within g A a B b k w fine
keeps g (reporting r p) w fine = w

pub within-limits : (cs : List Call) → Within (after empty cs)
within-limits cs = every Within keeps empty empty-within cs
