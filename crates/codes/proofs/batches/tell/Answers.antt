-- `codes::batches::tell` writes the kind and the eight values. Assumes nothing.
use native.Mathlib.Omega.{arith}
use mathlib.Core.Path.{◌≡◌, ap, ◌∙◌}
use mathlib.Core.List.{◌∷◌, ◌++◌}
use lib.ListN.{length, get_or, drop}
use Rattle.districts.specs.Answers.{answer_of}
use Rattle.codes.proofs.Batched.{nine, eight, told-long}
use Rattle.codes.proofs.batches.tell.Goals as goal

pub returns : goal.returns
returns c =
    let a = c.args in
    let l = a.answers.now in
    let vs = c.assigned-kind.new.values in
    let is = c.assigned-kind.ensures in
    let long : length vs ≡ 8 = omega (arith, ap length is.values, told-long (answer_of a.a)) in
    nine l c.assigned-kind.result (get_or vs 0 0) (get_or vs 1 0) (get_or vs 2 0) (get_or vs 3 0) (get_or vs 4 0) (get_or vs 5 0) (get_or vs 6 0) (get_or vs 7 0) c.requires
    ∙ ap (λ t. c.assigned-kind.result ∷ t) (eight vs (drop 9 l) long)
    ∙ (λ i. is.kind i ∷ (is.values i ++ drop 9 l))
