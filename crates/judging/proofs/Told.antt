-- What the acceptance of a change tells of the register. Assumes nothing.
use Prim.Native.Nat.{ℕ, ◌+◌, ◌%◌, ◌≤◌, ◌<◌}
use native.Mathlib.Decide.{dec_lt}
use native.Mathlib.Omega.{arith}
use mathlib.Core.Path.{◌≡◌, refl, sym, ap, ◌∙◌}
use mathlib.Core.Bool.{Bool, true, false, not, ◌||◌, true≢false}
use mathlib.Core.List.{List}
use lib.Dec.{eqb, leb, ltb}
use lib.IntN.{ℤ}
use lib.ListN.{length, get_or-eq_default}
use borrow.Author.Tests.{eqb-false, leb-false, ltb-false, not-false}
use Rattle.ring.specs.Grid.{vertices, some_beyond}
use Rattle.ring.proofs.Pick.{neither_left, neither_right}
use Rattle.districts.specs.Register.{Slot, unused, ring, Register, slot, in_use, vertices_of}
use Rattle.refusals.specs.Verdicts.{accept, verdict}
use Rattle.refusals.proofs.Verdicts.{accepted}
use Rattle.judging.specs.Splitting.{piece_one, piece_two, lowest_unused, vertex_count, split_tests}
use Rattle.judging.specs.Merging.{matches, merged, merge_tests}

-- ---- slots

pub used-ring : (s : Slot) → in_use s ≡ true → s ≡ ring (vertices_of s)
used-ring unused e = cc
used-ring (ring P) e = refl

pub unused-slot : (s : Slot) → in_use s ≡ false → s ≡ unused
unused-slot unused e = refl
unused-slot (ring P) e = cc

-- a number in use is one of the register's numbers
pub used-below : (g : Register) (d : ℕ) → in_use (slot g d) ≡ true → d < length g.districts
used-below g d e = elim (dec_lt d (length g.districts)) [
  | yes less ↦ less
  | no more ↦
      let clash : false ≡ true = sym (ap in_use (get_or-eq_default g.districts unused (omega (arith, more)))) ∙ e in
      absurd (true≢false (sym clash))
]

-- ---- splitting

pub record Splittable (g : Register) (d i j : ℕ) (path : List ℤ) : Type 0 where
  pub outlined : in_use g.outline ≡ true
  pub used : in_use (slot g d) ≡ true
  pub lower : i < length (vertices_of (slot g d))
  pub other : j < length (vertices_of (slot g d))
  pub differ : i ≡ j → ⊥
  pub even : length path % 2 ≡ 0
  pub grid : some_beyond path ≡ false
  pub first : 3 ≤ length (piece_one (vertices_of (slot g d)) i j (vertices path))
  pub second : 3 ≤ length (piece_two (vertices_of (slot g d)) i j (vertices path))
  pub number : lowest_unused g < 64
  pub room : vertex_count g + 2 + length path ≤ 2048

pub split-told : (b : Bool) (g : Register) (d i j : ℕ) (path : List ℤ) → verdict (split_tests b g d i j path) ≡ accept → Splittable g d i j path
split-told b g d i j path fine =
    let P = vertices_of (slot g d) in
    let n = length P in
    let one = length (piece_one P i j (vertices path)) in
    let two = length (piece_two P i j (vertices path)) in
    let t2 = accepted 2 _ _ (accepted 1 _ _ fine).1 in
    let t6 = accepted 6 _ _ t2.1 in
    let t8 = accepted 8 _ _ t6.1 in
    let t4 = accepted 4 _ _ t8.1 in
    let t5 = accepted 5 _ _ t4.1 in
    let t9 = accepted 9 _ _ t5.1 in
    let t11 = accepted 11 _ _ t9.1 in
    let t12 = accepted 12 _ _ t11.1 in
    let indices = neither_left (leb n i || leb n j) (eqb i j) t8.0 in
    let not-one = eqb-false (length path % 2) 1 t4.0 in
    record {
      outlined = not-false _ t2.0;
      used = not-false _ t6.0;
      lower = leb-false n i (neither_left (leb n i) (leb n j) indices);
      other = leb-false n j (neither_right (leb n i) (leb n j) indices);
      differ = eqb-false i j (neither_right (leb n i || leb n j) (eqb i j) t8.0);
      even = omega (arith, not-one);
      grid = t5.0;
      first = ltb-false one 3 (neither_left (ltb one 3) (ltb two 3) t9.0);
      second = ltb-false two 3 (neither_right (ltb one 3) (ltb two 3) t9.0);
      number = leb-false 64 (lowest_unused g) t11.0;
      room = ltb-false 2048 (vertex_count g + 2 + length path) t12.0;
    }

-- ---- merging

pub record Mergeable (g : Register) (A a B b k : ℕ) : Type 0 where
  pub outlined : in_use g.outline ≡ true
  pub kept : in_use (slot g A) ≡ true
  pub gone : in_use (slot g B) ≡ true
  pub differ : A ≡ B → ⊥
  pub first : a < length (vertices_of (slot g A))
  pub second : b < length (vertices_of (slot g B))
  pub least : 1 ≤ k
  pub fewer : k < length (vertices_of (slot g A))
  pub also : k < length (vertices_of (slot g B))
  pub match : matches (vertices_of (slot g A)) a (vertices_of (slot g B)) b k ≡ true
  pub enough : 3 ≤ length (merged (vertices_of (slot g A)) a (vertices_of (slot g B)) b k)

pub merge-told : (w : Bool) (g : Register) (A a B b k : ℕ) → verdict (merge_tests w g A a B b k) ≡ accept → Mergeable g A a B b k
merge-told w g A a B b k fine =
    let P = vertices_of (slot g A) in
    let Q = vertices_of (slot g B) in
    let t2 = accepted 2 _ _ (accepted 1 _ _ fine).1 in
    let t6 = accepted 6 _ _ t2.1 in
    let t7 = accepted 7 _ _ t6.1 in
    let t8 = accepted 8 _ _ t7.1 in
    let t10 = accepted 10 _ _ t8.1 in
    let t9 = accepted 9 _ _ t10.1 in
    let edges = neither_left (eqb k 0 || (leb (length P) k || leb (length Q) k)) _ t10.0 in
    let most = neither_right (eqb k 0) (leb (length P) k || leb (length Q) k) edges in
    let nought = eqb-false k 0 (neither_left (eqb k 0) _ edges) in
    record {
      outlined = not-false _ t2.0;
      kept = not-false _ (neither_left (not (in_use (slot g A))) (not (in_use (slot g B))) t6.0);
      gone = not-false _ (neither_right (not (in_use (slot g A))) (not (in_use (slot g B))) t6.0);
      differ = eqb-false A B t7.0;
      first = leb-false (length P) a (neither_left (leb (length P) a) (leb (length Q) b) t8.0);
      second = leb-false (length Q) b (neither_right (leb (length P) a) (leb (length Q) b) t8.0);
      least = omega (arith, nought);
      fewer = leb-false (length P) k (neither_left (leb (length P) k) (leb (length Q) k) most);
      also = leb-false (length Q) k (neither_right (leb (length P) k) (leb (length Q) k) most);
      match = not-false _ (neither_right (eqb k 0 || (leb (length P) k || leb (length Q) k)) (not (matches P a Q b k)) t10.0);
      enough = ltb-false (length (merged P a Q b k)) 3 t9.0;
    }
