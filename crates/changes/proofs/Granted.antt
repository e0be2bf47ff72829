-- What the acceptance of a merge tells, and that what was performed is the rules' merge. Assumes nothing.
use Prim.Native.Nat.{ℕ, ◌+◌, ◌-◌, ◌≤◌, ◌<◌}
use native.Mathlib.Omega.{arith}
use mathlib.Core.Path.{◌≡◌, sym, ap, subst, ◌∙◌}
use mathlib.Core.Bool.{true, false}
use mathlib.Core.List.{List}
use lib.Dec.{eqb}
use lib.IntN.{ℤ}
use lib.ListN.{length, set}
use borrow.Author.Tests.{eqb-false, not-true, not-false}
use Rattle.ring.specs.declared.Point.{Point}
use Rattle.ring.specs.Grid.{some_beyond}
use Rattle.ring.specs.Columns.{points}
use Rattle.districts.specs.Register.{unused, ring, slot, in_use, vertices_of}
use Rattle.districts.specs.Lists.{outline_size, first_place, size, part, meaning}
use Rattle.districts.specs.Lent.{Lists, lent, outline_of, store_of, formed, means}
use Rattle.districts.proofs.Sound.{outline-lengths}
use Rattle.refusals.specs.Verdicts.{accept, verdict}
use Rattle.districts.proofs.Lent.{outline-in-use}
use Rattle.refusals.proofs.Verdicts.{accepted}
use Rattle.room.specs.Writing.{numbers_of}
use Rattle.room.proofs.Forms as Forms
use Rattle.room.proofs.Forms.{Sound, sound}
use Rattle.room.proofs.Parts.{both-on-grid}
use Rattle.judging.specs.Merging.{merged, merge_tests}
use Rattle.changes.specs.Afterwards.{merge}
use Rattle.changes.specs.Performing.{Pair, Joined}
use Rattle.changes.proofs.Grids.{run-on-grid}
use Rattle.judging.proofs.Judged.{used-is, used-below, ring_of_lem, ring-on-grid, length-of}
use Rattle.judging.proofs.Told.{Mergeable, merge-told}
use Rattle.judging.proofs.Matched.{merged-length}
use Rattle.changes.proofs.Merges.{joined-sound, joined-meaning}

-- what an acceptance tells of the lists' numbers
pub record Joint (runs : List ℕ) (A a B b k : ℕ) : Type 0 where
  pub some : 0 < outline_size runs
  pub kept : size runs A ≡ 0 → ⊥
  pub gone : size runs B ≡ 0 → ⊥
  pub differ : A ≡ B → ⊥
  pub first : a < size runs A
  pub second : b < size runs B
  pub least : 1 ≤ k
  pub fewer : k < size runs A
  pub also : k < size runs B

module _ (l : Lists) (A a B b k : ℕ)
    (yes : verdict (merge_tests (formed l) (means l) A a B b k) ≡ accept) where
  abbrev outline : List Point
  outline = outline_of l

  abbrev store : List Point
  store = store_of l

  abbrev runs : List ℕ
  runs = l.runs

  pub right : formed l ≡ true
  right = not-false _ (accepted 1 _ _ yes).0

  facts : Sound outline store runs
  facts = sound l right

  -- the rings as the meaning has them
  abbrev ring_of : ℕ → List Point
  ring_of d = vertices_of (slot (meaning outline store runs) d)

  long : (d : ℕ) → length (ring_of d) ≡ size runs d
  long d = length-of outline store runs facts d

  told : Mergeable (meaning outline store runs) A a B b k
  told = merge-told (formed l) (means l) A a B b k yes

  used : (d : ℕ) → in_use (slot (meaning outline store runs) d) ≡ true → size runs d ≡ 0 → ⊥
  used d e = eqb-false (size runs d) 0 (not-true (eqb (size runs d) 0) (sym (used-is outline store runs facts d) ∙ e))

  pub joint : Joint l.runs A a B b k
  joint =
      let outlined = not-true (eqb (outline_size runs) 0) (sym (outline-in-use outline store runs) ∙ told.outlined) in
      record {
        some = let none = eqb-false (outline_size runs) 0 outlined in omega (arith, none);
        kept = used A told.kept;
        gone = used B told.gone;
        differ = told.differ;
        first = omega (arith, long A, told.first);
        second = omega (arith, long B, told.second);
        least = told.least;
        fewer = omega (arith, long A, told.fewer);
        also = omega (arith, long B, told.also);
      }

  pub pair : Pair l.runs A B
  pair =
      let kept = joint.kept in
      let gone = joint.gone in
      let first = used-below outline store runs facts A kept in
      let second = used-below outline store runs facts B gone in
      let some : 0 < size runs A = omega (arith, kept) in
      let more : 0 < size runs B = omega (arith, gone) in
      record {
        runs-length = facts.runs-length;
        most = facts.most;
        first = first;
        second = second;
        differ = joint.differ;
        some = some;
        more = more;
        first-inside = facts.inside A first some;
        second-inside = facts.inside B second more;
        apart = facts.apart A B first second joint.differ some more;
      }

  -- ---- the result

  P : List Point
  P = part store (first_place runs A) (size runs A)

  Q : List Point
  Q = part store (first_place runs B) (size runs B)

  rings-are : merged (ring_of A) a (ring_of B) b k ≡ merged P a Q b k
  unfolding P Q
  rings-are = λ t. merged (ring_of_lem outline store runs facts A joint.kept t) a (ring_of_lem outline store runs facts B joint.gone t) b k

  result-long : length (merged P a Q b k) ≡ size runs A - k + (size runs B - k)
  result-long = ap length (sym rings-are) ∙ merged-length (ring_of A) (ring_of B) a b (size runs A) (size runs B) k (long A) (long B) joint.fewer joint.also

  enough : 3 ≤ length (merged P a Q b k)
  enough = subst (λ R. 3 ≤ length R) rings-are told.enough

  grid : some_beyond (numbers_of (merged P a Q b k)) ≡ false
  unfolding P Q
  grid = both-on-grid _ _
      (run-on-grid (part store (first_place runs A) (size runs A)) (ring-on-grid outline store runs facts A joint.kept) _ _)
      (run-on-grid (part store (first_place runs B) (size runs B)) (ring-on-grid outline store runs facts B joint.gone) _ _)

  module _ (store' : List Point) (runs' : List ℕ) (v : Joined store runs A B (merged P a Q b k) store' runs') where
    fits : length (merged P a Q b k) ≤ size runs A + size runs B
    fits = omega (arith, result-long)

    still : Sound outline store' runs'
    still = joined-sound outline store runs A B (merged P a Q b k) store' runs' facts joint.some pair enough fits grid v

    sense : meaning outline store' runs' ≡ merge (meaning outline store runs) A a B b k
    unfolding merge
    sense =
        joined-meaning outline store runs A B (merged P a Q b k) store' runs' facts joint.some pair enough fits grid v
        ∙ (λ t. record { outline = (meaning outline store runs).outline; districts = set (set (meaning outline store runs).districts A (ring (sym rings-are t))) B unused })

  -- the lists afterwards
  module _ (sx sy : List ℤ) (runs' : List ℕ) (long' : (length sx ≡ 2048) × (length sy ≡ 2048))
      (v : Joined (store_of l) l.runs A B (merged (part (store_of l) (first_place l.runs A) (size l.runs A)) a (part (store_of l) (first_place l.runs B) (size l.runs B)) b k) (points sx sy) runs') where
    pub merge-well-formed : formed (lent l.ox l.oy sx sy runs') ≡ true
    unfolding P Q
    merge-well-formed = Forms.formed (lent l.ox l.oy sx sy runs') (record { outline = outline-lengths l right; store = long' }) (still (points sx sy) runs' v)

    pub merge-meaning : means (lent l.ox l.oy sx sy runs') ≡ merge (means l) A a B b k
    unfolding P Q
    merge-meaning = sense (points sx sy) runs' v
