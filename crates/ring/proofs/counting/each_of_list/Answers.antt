-- `ring::counting::each_of_list`: the closing edge, and then the first edges, as many as vertices were met from place 2 of the list on. The measure is how much of the list is left. Assumes nothing.
use Prim.Native.Nat.{ℕ, ◌+◌, ◌/◌}
use native.Mathlib.Omega.{arith}
use mathlib.Core.Path.{◌≡◌, refl, subst}
use Rattle.ring.specs.Grid.{vertices}
use Rattle.ring.specs.Rings.{at}
use Rattle.ring.specs.Walk.{head_of, Sight, Counts}
use Rattle.ring.proofs.Walks.{counts-none, counts-edge, counts-more, counts_all}
use Rattle.ring.proofs.counting.each_of_list.Goals as goal

pub loop-k-init : goal.loop-k-init
loop-k-init c =
    let P = vertices c.args.ring.now.list.now in
    record { edges = 0; place = omega arith; within = omega (arith, c.args.ring.now.ring.least); counts = counts-none P (head_of c.args.r) 0 c.closing-count.result; sight = c.seen-from.ensures }

pub loop-k-preserved : goal.loop-k-preserved
loop-k-preserved c =
    let P = vertices c.args.ring.now.list.now in
    let R = head_of c.args.r in
    let gone = c.loop-k.invariant in
    let j = gone.edges in
    let next : c.loop-k.k / 2 ≡ j + 1 = omega (arith, gone.place) in
    let to = c.seen-to.result in
    let ahead : Sight R (at P (j + 1)) to = subst (λ (m : ℕ). Sight R (at P m) to) next c.seen-to.ensures in
    record {
      edges = j + 1;
      place = omega (arith, gone.place);
      within = omega (arith, gone.place, c.loop-k-test.true, c.args.ring.now.ring.even);
      counts = counts-more P R j 1 (j + 1) c.closing-count.result c.loop-k.count c.along-count.result refl gone.counts (counts-edge P R j c.loop-k.from to c.loop-k.count c.along-count.result gone.sight ahead c.along-count.ensures);
      sight = ahead;
    }

pub returns : goal.returns
returns c =
    let P = vertices c.args.ring.now.list.now in
    let R = head_of c.args.r in
    let ring = c.args.ring.now.ring in
    let gone = c.loop-k.invariant in
    counts_all P R c.closing-count.result c.loop-k.count (omega (arith, ring.least)) ring.most c.closing-count.ensures
    (subst (λ (m : ℕ). Counts P R 0 m c.closing-count.result c.loop-k.count) (omega (arith, gone.place, gone.within, c.loop-k-test.false, ring.even)) gone.counts)
