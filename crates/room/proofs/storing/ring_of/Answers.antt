-- `storing::ring_of` answers the part of the list that was written: the district's ring. Assumes nothing.
use native.Mathlib.Omega.{arith}
use Prim.Native.Nat.{◌-◌, ◌*◌}
use mathlib.Core.Path.{◌≡◌, sym, ap, ◌∙◌}
use lib.ListN.{length}
use borrow.Rule.Slice.PartMut.{mid_of}
use Rattle.ring.specs.Columns.{points}
use Rattle.ring.proofs.Points.{length-points}
use Rattle.districts.specs.Lists.{first_place, size, part}
use Rattle.districts.proofs.Lent.{part_length}
use Rattle.room.specs.Writing.{numbers_of}
use Rattle.room.proofs.Written.{read_back}
use Rattle.room.proofs.storing.ring_of.Goals as goal

pub returns : goal.returns
returns c =
    let s = c.args.store.now in
    let d = c.args.d in
    let P = points s.sx.now s.sy.now in
    let same = c.runs.ensures in
    let n = size c.runs.result.list.now d in
    let from = first_place c.runs.result.list.now d in
    let many : c.copy_ring-many.result ≡ 2 * n = omega (arith, c.copy_ring-many.ensures.many) in
    let long : length P ≡ 2048 = length-points s.sx.now s.sy.now (s.long.0 ∙ sym s.long.1) ∙ s.long.0 in
    ap (λ k. mid_of 0 (k - 0) c.copy_ring-many.new.to) many
    ∙ read_back _ n (part_length P from n (omega (arith, long, ap (λ r. first_place r d) same, ap (λ r. size r d) same, c.requires.inside))) _ _ c.copy_ring-many.ensures.copied
    ∙ ap (λ r. numbers_of (part P (first_place r d) (size r d))) same
