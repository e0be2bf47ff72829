-- `storing::copy_ring` writes the parts of the two columns that are a district's ring. Assumes nothing.
use native.Mathlib.Omega.{arith}
use mathlib.Core.Path.{ap, ◌∙◌}
use Rattle.ring.specs.Columns.{points}
use Rattle.districts.specs.Lists.{part}
use Rattle.districts.specs.Lent.{written}
use Rattle.districts.proofs.Lent.{cut-points}
use Rattle.room.specs.Writing.{numbers_of}
use Rattle.room.proofs.storing.copy_ring.Goals as goal

pub returns-clause-many : goal.returns-clause-many
returns-clause-many c = let n = c.size-n.ensures.0 in omega (arith, n)

pub returns-clause-copied : goal.returns-clause-copied
returns-clause-copied c =
    let a = c.args in
    let f = c.first_place-from.ensures.0 in
    let n = c.size-n.ensures.0 in
    c.interleave.ensures
    ∙ ap (λ P. written (numbers_of P) a.to.now) (cut-points a.sx.now a.sy.now c.first_place-from.result c.size-n.result ∙ (λ t. part (points a.sx.now a.sy.now) (f t) (n t)))
