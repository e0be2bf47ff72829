-- `changes::splitting::split_known` performs what is not refused, and otherwise leaves the lists. Assumes nothing.
use Prim.Native.Nat.{ℕ}
use native.Mathlib.Omega.{arith}
use mathlib.Core.Path.{◌≡◌, subst, ◌∙◌}
use mathlib.Core.List.{List}
use lib.IntN.{ℤ}
use lib.ListN.{length}
use Rattle.std.proofs.Common.{rules}
use Rattle.ring.specs.Grid.{vertices}
use Rattle.refusals.specs.Verdicts.{accept, verdict}
use Rattle.districts.specs.Lists.{first_place, size, part}
use Rattle.districts.specs.Lent.{Lists, outline_of, store_of, formed, means}
use Rattle.districts.specs.Held.{changing_of}
use Rattle.districts.proofs.Sound.{store-lengths, runs-length}
use Rattle.room.specs.Room as Room
use Rattle.judging.specs.Splitting.{piece_one, piece_two, lowest_unused, split_tests}
use Rattle.judging.proofs.Judged.{free-is}
use Rattle.changes.specs.Performing.{Divided}
use Rattle.changes.proofs.Accepted.{right, facts, free, fits, split_below, split-well-formed, split-meaning}
use Rattle.changes.proofs.Outcomes.{change-done}
use Rattle.changes.proofs.splitting.split_known.Goals as goal

-- what the judge says, of lists that are lent to be read
abbrev Told : Lists → ℕ → ℕ → ℕ → List ℤ → ℕ → Type 0
Told l d i j path e = (verdict (split_tests (formed l) (means l) d i j path) ≡ accept) × (e ≡ lowest_unused (means l))

told : (k l : Lists) (d i j : ℕ) (path : List ℤ) (e : ℕ) → k ≡ l → Told k d i j path e → Told l d i j path e
told k l d i j path e same said = subst (λ k. Told k d i j path e) same said

pub invariant_of-store : goal.invariant_of-store
invariant_of-store c =
    let l = changing_of c.args.lists.now in
    let cut = c.args.cut in
    let path = c.args.path.now in
    let sure = right l cut.d cut.i cut.j path (told _ l cut.d cut.i cut.j path _ c.read.ensures c.in_ok-e.ensures).0 in
    let long = store-lengths l sure in
    record { long = (long.0, long.1, runs-length l sure) }

pub perform-requires : goal.perform-requires
perform-requires c =
    let l = changing_of c.args.lists.now in
    let cut = c.args.cut in
    let path = c.args.path.now in
    let said = told _ l cut.d cut.i cut.j path _ c.read.ensures c.in_ok-e.ensures in
    let f = free l cut.d cut.i cut.j path said.0 in
    let number = free-is (outline_of l) (store_of l) l.runs (facts l cut.d cut.i cut.j path said.0) in
    record {
      numbers = (split_below l cut.d cut.i cut.j path said.0, omega (arith, said.1, number, f.number));
      inside = fits l cut.d cut.i cut.j path said.0;
      ends = (f.lower, f.other, f.differ);
      path_len = f.even;
      room = f.room;
    }

pub returns-clause-split : goal.returns-clause-split
returns-clause-split c =
    let l = changing_of c.args.lists.now in
    let cut = c.args.cut in
    let path = c.args.path.now in
    let said = told _ l cut.d cut.i cut.j path _ c.read.ensures c.in_ok-e.ensures in
    let after = c.perform.new.store in
    let long : (length after.sx.now ≡ 2048) × (length after.sy.now ≡ 2048) = search rules in
    let P = part (store_of l) (first_place l.runs cut.d) (size l.runs cut.d) in
    let W = vertices path in
    let divided = subst (λ e. Divided (store_of l) l.runs cut.d e (piece_one P cut.i cut.j W) (piece_two P cut.i cut.j W) (Room.store_of after) after.runs.now)
    (said.1 ∙ free-is (outline_of l) (store_of l) l.runs (facts l cut.d cut.i cut.j path said.0)) c.perform.ensures.divided in
    change-done _ _ _ l c.in_ok-e.e _ _ after.sx.now after.sy.now _ after.runs.now (search rules) (search rules) (search rules) said.1 said.0
    (split-well-formed l cut.d cut.i cut.j path said.0 after.sx.now after.sy.now after.runs.now long divided)
    (split-meaning l cut.d cut.i cut.j path said.0 after.sx.now after.sy.now after.runs.now long divided)
