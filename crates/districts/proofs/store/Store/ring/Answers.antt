-- `Store::ring` cuts d's run out of both columns. Assumes nothing.
use mathlib.Core.Path.{sym, ap, ◌∙◌}
use Rattle.ring.specs.Columns.{points}
use Rattle.districts.specs.Register.{ring}
use Rattle.districts.specs.Lists.{part}
use Rattle.districts.proofs.Lent.{cut-points}
use Rattle.districts.proofs.Meaning.{ring-when}
use Rattle.districts.proofs.store.Store.ring.Goals as goal

pub returns : goal.returns
returns c =
    let s = c.args.self.now in
    let at = c.first_place-from.ensures.0 in
    let long = c.size-n.ensures.0 in
    ring-when (points s.sx.now s.sy.now) _ _ (λ e. c.if-n-eq0.false (long ∙ e))
    ∙ ap ring (sym (cut-points s.sx.now s.sy.now c.first_place-from.result c.size-n.result ∙ (λ i. part (points s.sx.now s.sy.now) (at i) (long i))))
