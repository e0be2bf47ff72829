-- `changes::merging::merge_known` performs what is not refused, and otherwise leaves the lists. Assumes nothing.
use Prim.Native.Nat.{ℕ}
use mathlib.Core.Path.{◌≡◌, refl, sym, subst}
use lib.ListN.{length}
use Rattle.std.proofs.Common.{rules}
use Rattle.refusals.specs.Verdicts.{accept, verdict}
use Rattle.districts.specs.Lent.{Lists, formed, means}
use Rattle.districts.specs.Held.{changing_of}
use Rattle.districts.proofs.Sound.{store-lengths, runs-length}
use Rattle.judging.specs.Merging.{merge_tests}
use Rattle.changes.proofs.Granted.{right, joint, pair, merge-well-formed, merge-meaning}
use Rattle.changes.proofs.Outcomes.{change-done}
use Rattle.changes.proofs.merging.merge_known.Goals as goal

-- the judge asked of the same lists, lent to be read
accepted : (k l : Lists) (A a B b n : ℕ) → k ≡ l → accept ≡ verdict (merge_tests (formed k) (means k) A a B b n) → verdict (merge_tests (formed l) (means l) A a B b n) ≡ accept
accepted k l A a B b n e said = subst (λ k. verdict (merge_tests (formed k) (means k) A a B b n) ≡ accept) e (sym said)

pub invariant_of-store : goal.invariant_of-store
invariant_of-store c =
    let l = changing_of c.args.lists.now in
    let s = c.args.seam in
    let sure = right l s.kept s.a s.gone s.b s.k (accepted _ l s.kept s.a s.gone s.b s.k c.read.ensures c.in_ok-merge.ensures) in
    let long = store-lengths l sure in
    record { long = (long.0, long.1, runs-length l sure) }

pub perform-requires : goal.perform-requires
perform-requires c =
    let l = changing_of c.args.lists.now in
    let s = c.args.seam in
    let yes = accepted _ l s.kept s.a s.gone s.b s.k c.read.ensures c.in_ok-merge.ensures in
    let j = joint l s.kept s.a s.gone s.b s.k yes in
    record { pair = pair l s.kept s.a s.gone s.b s.k yes; ends = (j.first, j.second); edges = (j.least, j.fewer, j.also) }

pub returns-clause-merged : goal.returns-clause-merged
returns-clause-merged c =
    let l = changing_of c.args.lists.now in
    let s = c.args.seam in
    let yes = accepted _ l s.kept s.a s.gone s.b s.k c.read.ensures c.in_ok-merge.ensures in
    let after = c.perform.new.store in
    let long : (length after.sx.now ≡ 2048) × (length after.sy.now ≡ 2048) = search rules in
    change-done _ _ _ l s.kept _ _ after.sx.now after.sy.now _ after.runs.now (search rules) (search rules) (search rules) refl yes
    (merge-well-formed l s.kept s.a s.gone s.b s.k yes after.sx.now after.sy.now after.runs.now long c.perform.ensures.joined)
    (merge-meaning l s.kept s.a s.gone s.b s.k yes after.sx.now after.sy.now after.runs.now long c.perform.ensures.joined)
