-- `register::founding::found_known` writes where nothing is refused, and otherwise leaves the lists. Assumes nothing.
use Prim.Native.Nat.{ℕ, ◌+◌, ◌/◌, ◌%◌, ◌≤◌}
use native.Mathlib.Omega.{arith}
use mathlib.Core.Path.{◌≡◌, sym, ap, subst, transport, ◌∙◌}
use mathlib.Core.Bool.{true, false}
use mathlib.Core.List.{List}
use lib.Dec.{eqb, ltb}
use lib.IntN.{ℤ}
use lib.ListN.{length}
use borrow.Author.Tests.{eqb-true, eqb-false, ltb-false, not-false}
use Rattle.std.specs.Prelude.{Ok}
use Rattle.ring.specs.Grid.{vertices, some_beyond}
use Rattle.ring.proofs.Pick.{neither_left, neither_right}
use Rattle.ring.proofs.Vertices.{length-vertices}
use Rattle.districts.specs.Lists.{outline_size, meaning}
use Rattle.districts.specs.Lent.{Lists, outline_of, store_of, formed, means}
use Rattle.districts.specs.Held.{founding_of}
use Rattle.districts.proofs.Sound.{outline-lengths, store-lengths, runs-length}
use Rattle.districts.proofs.Lent.{outline-in-use}
use Rattle.refusals.specs.Verdicts.{accept, verdict}
use Rattle.refusals.proofs.Verdicts.{accepted}
use Rattle.room.proofs.Forms as Forms
use Rattle.room.proofs.Forms.{Sound, Long, sound}
use Rattle.room.proofs.Written.{numbers-vertices}
use Rattle.register.specs.Founding.{found_tests, founded}
use Rattle.register.specs.Calls.{Wrote, FoundBy}
use Rattle.register.proofs.Founds.{founded-sound, founded-meaning}
use Rattle.register.proofs.founding.found_known.Goals as goal

-- what an acceptance tells
record Free (l : Lists) (xs : List ℤ) (n : ℕ) : Type 0 where
  good : formed l ≡ true
  none : outline_size l.runs ≡ 0
  even : length xs ≡ n + n
  least : 3 ≤ n
  most : n ≤ 2048
  grid : some_beyond xs ≡ false

free : (l : Lists) (xs : List ℤ) → accept ≡ verdict (found_tests (formed l) (means l) xs) → Free l xs (length xs / 2)
free l xs e =
    let first = accepted 1 _ _ (sym e) in
    let second = accepted 3 _ _ first.1 in
    let third = accepted 4 _ _ second.1 in
    let fourth = accepted 5 _ _ third.1 in
    let m = length xs in
    let odd = eqb-false (m % 2) 1 (neither_left (eqb (m % 2) 1) _ third.0) in
    let sizes = neither_right (eqb (m % 2) 1) _ third.0 in
    let few = ltb-false (m / 2) 3 (neither_left (ltb (m / 2) 3) _ sizes) in
    let many = ltb-false 2048 (m / 2) (neither_right (ltb (m / 2) 3) _ sizes) in
    record {
      good = not-false _ first.0;
      none = eqb-true (outline_size l.runs) 0 (not-false _ (sym (outline-in-use (outline_of l) (store_of l) l.runs) ∙ second.0));
      even = omega arith;
      least = few;
      most = many;
      grid = fourth.0;
    }

wrote-all : (xs : List ℤ) (n : ℕ) (l after : Lists) → Free l xs n → Long after → accept ≡ verdict (found_tests (formed l) (means l) xs) → Wrote (vertices xs) l after → FoundBy (Ok tt) xs l after
unfolding founded
wrote-all xs n l after f long e w =
    let many : length (vertices xs) ≡ n = length-vertices xs n f.even in
    let least = f.least in
    let most = f.most in
    let sure = sound l f.good in
    let grid = ap some_beyond (numbers-vertices xs n f.even) ∙ f.grid in
    let few : 3 ≤ length (vertices xs) = omega (arith, many, least) in
    let fits : length (vertices xs) ≤ 2048 = omega (arith, many, most) in
    record {
      said = e;
      left = (
        Forms.formed after long (transport (λ i. Sound (sym w.outline i) (sym w.store i) (sym w.runs i)) (founded-sound (outline_of l) (store_of l) l.runs (vertices xs) sure f.none few fits grid)),
        (λ i. meaning (w.outline i) (w.store i) (w.runs i)) ∙ founded-meaning (outline_of l) (store_of l) l.runs (vertices xs) sure f.none few fits grid,
      );
    }

pub write-requires-clause-columns_len : goal.write-requires-clause-columns_len
write-requires-clause-columns_len c =
    let l = founding_of c.args.lists.now in
    let f = free l c.args.ring.now (subst (λ l. accept ≡ verdict (found_tests (formed l) (means l) c.args.ring.now)) c.read.ensures c.in_ok-judged.ensures) in
    let own = outline-lengths l f.good in
    let all = store-lengths l f.good in
    (own.0, own.1, all.0, all.1)

pub write-requires-clause-runs_len : goal.write-requires-clause-runs_len
write-requires-clause-runs_len c =
    let l = founding_of c.args.lists.now in
    runs-length l (free l c.args.ring.now (subst (λ l. accept ≡ verdict (found_tests (formed l) (means l) c.args.ring.now)) c.read.ensures c.in_ok-judged.ensures)).good

pub write-requires-clause-ring_len : goal.write-requires-clause-ring_len
write-requires-clause-ring_len c =
    let f = free (founding_of c.args.lists.now) c.args.ring.now (subst (λ l. accept ≡ verdict (found_tests (formed l) (means l) c.args.ring.now)) c.read.ensures c.in_ok-judged.ensures) in
    (omega (arith, f.even), f.most)

pub returns-clause-found : goal.returns-clause-found
returns-clause-found c =
    let l = founding_of c.args.lists.now in
    let told = subst (λ l. accept ≡ verdict (found_tests (formed l) (means l) c.args.ring.now)) c.read.ensures c.in_ok-judged.ensures in
    let long = c.write.ensures.columns_len in
    wrote-all c.args.ring.now _ l _ (free l c.args.ring.now told) (record { outline = (long.0, long.1); store = (long.2, long.3) }) told c.write.ensures.wrote
