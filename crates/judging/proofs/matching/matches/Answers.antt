-- `judging::matching::matches` asks of every point of the border. Assumes nothing.
use Prim.Native.Nat.{◌+◌}
use native.Mathlib.Omega.{arith}
use mathlib.Core.Path.{◌≡◌, refl}
use mathlib.Core.Bool.{true, false}
use Rattle.std.proofs.Common.{rules}
use Rattle.std.proofs.lemmas.Iterator.{cases_from_all, YieldsList-from_range}
use Rattle.ring.specs.Held.{points_of}
use Rattle.judging.proofs.Matched.{meets_at, match-said}
use Rattle.judging.proofs.matching.matches.Goals as goal

pub returns : goal.returns
returns c =
    let a = c.args in
    let P = points_of a.one.now in
    let Q = points_of a.two.now in
    match-said P a.a Q a.b a.k c.all.result (cases_from_all _ _ c.all.result (λ t. meets_at P a.a Q a.b t ≡ true) (λ t. meets_at P a.a Q a.b t ≡ false) c.all.ensures.ran
    (YieldsList-from_range 0 _ (a.k + 1) refl (omega arith))
    (λ t q k. (search rules, search rules))
    (λ t q k. search rules))
