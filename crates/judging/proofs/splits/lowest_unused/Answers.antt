-- `judging::splits::lowest_unused`: what `find` finds is the lowest. Assumes nothing.
use mathlib.Core.Path.{◌≡◌}
use Rattle.std.proofs.Common.{rules, tests}
use Rattle.std.proofs.lemmas.Iterator.{first_from_Range}
use Rattle.districts.specs.Lists.{size}
use Rattle.judging.proofs.Free.{frees}
use Rattle.judging.proofs.splits.lowest_unused.Goals as goal

pub returns : goal.returns
returns c =
    let runs = c.args.runs.now.list.now in
    frees runs c.find.result (first_from_Range _ _ _ _ (λ d. size runs d ≡ 0) (λ d. size runs d ≡ 0 → ⊥) c.find.ensures.ran
    (λ x q k. search (rules, tests))
    (λ x q k. (search rules, search (rules, tests))))
