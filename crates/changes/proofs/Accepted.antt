-- What the acceptance of a split tells, and that what was performed is the rules' split. Assumes nothing.
use Prim.Native.Nat.{ℕ, ◌+◌, ◌/◌, ◌%◌, ◌≤◌, ◌<◌}
use native.Mathlib.Omega.{arith}
use mathlib.Core.Path.{◌≡◌, refl, sym, ap, subst, ◌∙◌}
use mathlib.Core.Bool.{true, false}
use mathlib.Core.List.{List, reverse}
use lib.Dec.{eqb}
use lib.IntN.{ℤ}
use lib.ListN.{length}
use borrow.Author.Tests.{eqb-true, eqb-false, not-true, not-false}
use Rattle.ring.specs.declared.Point.{Point}
use Rattle.ring.specs.Grid.{vertices, some_beyond}
use Rattle.districts.specs.Register.{slot, vertices_of}
use Rattle.districts.specs.Lists.{outline_size, first_place, size, part, meaning}
use Rattle.districts.specs.WellFormed.{total}
use Rattle.districts.specs.Lent.{Lists, lent, outline_of, store_of, formed, means}
use Rattle.districts.proofs.Sound.{outline-lengths}
use Rattle.ring.specs.Columns.{points}
use Rattle.refusals.specs.Verdicts.{accept, verdict}
use Rattle.districts.proofs.Lent.{outline-in-use}
use Rattle.refusals.proofs.Verdicts.{accepted}
use Rattle.ring.proofs.Search.{lowest-is}
use Rattle.room.specs.Runs.{steps}
use Rattle.judging.specs.Splitting.{piece_one, piece_two, split_tests}
use Rattle.changes.specs.Afterwards.{split}
use Rattle.judging.specs.Judging.{lowest_free}
use Rattle.room.specs.Writing.{numbers_of}
use Rattle.changes.specs.Performing.{Divided}
use Rattle.room.proofs.Forms as Forms
use Rattle.room.proofs.Forms.{Sound, sound}
use Rattle.room.proofs.Parts.{both-on-grid}
use Rattle.room.proofs.Written.{numbers-vertices}
use Rattle.changes.proofs.Grids.{run-on-grid, reverse-on-grid}
use Rattle.judging.proofs.Sums.{steps-round}
use Rattle.judging.proofs.Judged.{used-is, used-below, ring_of_lem, ring-on-grid, length-of, one-long, two-long, free-is, count-is}
use Rattle.judging.proofs.Told.{Splittable, split-told}
use Rattle.changes.proofs.Splits.{divided-sound, divided-meaning}
use Rattle.room.proofs.Additions.{given}

-- what an acceptance tells of the lists' numbers
pub record Free (runs : List ℕ) (d i j : ℕ) (path : List ℤ) : Type 0 where
  pub some : 0 < outline_size runs
  pub used : size runs d ≡ 0 → ⊥
  pub lower : i < size runs d
  pub other : j < size runs d
  pub differ : i ≡ j → ⊥
  pub even : length path % 2 ≡ 0
  pub grid : some_beyond path ≡ false
  pub number : lowest_free runs < 64
  pub room : total runs + 2 + length path ≤ 2048

module _ (l : Lists) (d i j : ℕ) (path : List ℤ)
    (yes : verdict (split_tests (formed l) (means l) d i j path) ≡ accept) where
  abbrev outline : List Point
  outline = outline_of l

  abbrev store : List Point
  store = store_of l

  abbrev runs : List ℕ
  runs = l.runs

  pub right : formed l ≡ true
  right = not-false _ (accepted 1 _ _ yes).0

  pub facts : Sound (outline_of l) (store_of l) l.runs
  facts = sound l right

  told : Splittable (means l) d i j path
  told = split-told (formed l) (means l) d i j path yes

  pub free : Free l.runs d i j path
  free =
      let n = length-of outline store runs facts d in
      let in_use = not-true (eqb (size runs d) 0) (sym (used-is outline store runs facts d) ∙ told.used) in
      let outlined = not-true (eqb (outline_size runs) 0) (sym (outline-in-use outline store runs) ∙ told.outlined) in
      record {
        some = let none = eqb-false (outline_size runs) 0 outlined in omega (arith, none);
        used = eqb-false (size runs d) 0 in_use;
        lower = omega (arith, n, told.lower);
        other = omega (arith, n, told.other);
        differ = told.differ;
        even = told.even;
        grid = told.grid;
        number = omega (arith, free-is outline store runs facts, told.number);
        room = omega (arith, count-is outline store runs facts, told.room);
      }

  -- the ring of the district, and its pieces
  P : List Point
  P = part store (first_place runs d) (size runs d)

  W : List Point
  W = vertices path

  ring-is : vertices_of (slot (meaning outline store runs) d) ≡ P
  unfolding P
  ring-is = ring_of_lem outline store runs facts d free.used

  one-is : length (piece_one P i j W) ≡ 1 + steps (size runs d) i j + length path / 2
  unfolding P W
  one-is = ap (λ Q. length (piece_one Q i j W)) (sym ring-is) ∙ one-long outline store runs facts d i j path

  two_is : length (piece_two P i j W) ≡ 1 + steps (size runs d) j i + length path / 2
  unfolding P W
  two_is = ap (λ Q. length (piece_two Q i j W)) (sym ring-is) ∙ two-long outline store runs facts d i j path

  below : d < 64
  below = used-below outline store runs facts d free.used

  pub fits : first_place l.runs d + size l.runs d ≤ total l.runs
  fits = let some = free.used in facts.inside d below (omega (arith, some))

  store-grid : some_beyond (numbers_of (part store (first_place runs d) (size runs d))) ≡ false
  store-grid = ring-on-grid outline store runs facts d free.used

  path-grid : some_beyond (numbers_of W) ≡ false
  unfolding W
  path-grid = ap some_beyond (numbers-vertices path (length path / 2) (let e = free.even in omega (arith, e))) ∙ free.grid

  grids : (some_beyond (numbers_of (piece_one P i j W)) ≡ false) × (some_beyond (numbers_of (piece_two P i j W)) ≡ false)
  unfolding P
  grids = (
    both-on-grid _ (reverse W) (run-on-grid (part store (first_place runs d) (size runs d)) store-grid i _) (reverse-on-grid W path-grid),
    both-on-grid _ W (run-on-grid (part store (first_place runs d) (size runs d)) store-grid j _) path-grid,
  )

  unused-number : size runs (lowest_free runs) ≡ 0
  unused-number = eqb-true (size runs (lowest_free runs)) 0 (lowest-is (λ e. eqb (size runs e) 0) 64 0 (lowest_free runs) refl free.number).0

  room_for : total runs + length (piece_one P i j W) + length (piece_two P i j W) ≤ 2048 + size runs d
  room_for =
      let round = steps-round (size runs d) i j free.lower free.other free.differ in
      let room = free.room in
      let e = free.even in
      omega (arith, one-is, two_is, round, room, e)

  module _ (store' : List Point) (runs' : List ℕ) (v : Divided store runs d (lowest_free runs) (piece_one P i j W) (piece_two P i j W) store' runs') where
    used' : 0 < size runs d
    used' = let some = free.used in omega (arith, some)

    least : (3 ≤ length (piece_one P i j W)) × (3 ≤ length (piece_two P i j W))
    unfolding W
    least = (subst (λ Q. 3 ≤ length (piece_one Q i j W)) ring-is told.first, subst (λ Q. 3 ≤ length (piece_two Q i j W)) ring-is told.second)

    still : Sound outline store' runs'
    still = divided-sound outline store runs d (lowest_free runs) (piece_one P i j W) (piece_two P i j W) store' runs' facts free.some below used' free.number unused-number least room_for grids v

    sense : meaning outline store' runs' ≡ split (meaning outline store runs) d i j (vertices path)
    unfolding W split
    sense =
        divided-meaning outline store runs d (lowest_free runs) (piece_one P i j W) (piece_two P i j W) store' runs' facts free.some below used' free.number unused-number least room_for grids v
        ∙ (λ t. given (given (meaning outline store runs) d (piece_one (sym ring-is t) i j W)) (sym (free-is outline store runs facts) t) (piece_two (sym ring-is t) i j W))

  pub split_below : d < 64
  split_below = below

  -- the lists afterwards
  module _ (sx sy : List ℤ) (runs' : List ℕ) (long : (length sx ≡ 2048) × (length sy ≡ 2048))
      (v : Divided (store_of l) l.runs d (lowest_free l.runs) (piece_one (part (store_of l) (first_place l.runs d) (size l.runs d)) i j (vertices path)) (piece_two (part (store_of l) (first_place l.runs d) (size l.runs d)) i j (vertices path)) (points sx sy) runs') where
    pub split-well-formed : formed (lent l.ox l.oy sx sy runs') ≡ true
    unfolding P W
    split-well-formed = Forms.formed (lent l.ox l.oy sx sy runs') (record { outline = outline-lengths l right; store = long }) (still (points sx sy) runs' v)

    pub split-meaning : means (lent l.ox l.oy sx sy runs') ≡ split (means l) d i j (vertices path)
    unfolding P W
    split-meaning = sense (points sx sy) runs' v
