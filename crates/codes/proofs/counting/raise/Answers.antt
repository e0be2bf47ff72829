-- `codes::counting::raise` meets its contract. Assumes nothing.
use Prim.Native.Nat.{ℕ, ◌+◌, ◌<◌}
use native.Mathlib.Omega.{arith}
use mathlib.Core.Path.{◌≡◌, ap, subst, sym, ◌∙◌}
use borrow.Author.Rules.{rules}
use lib.ListN.{length, get_or}
use Rattle.std.proofs.lemmas.Result.{err_from_is_err_and}
use Rattle.std.specs.Option.{SomeIff, ok_or}
use Rattle.refusals.specs.declared.Refusal.TheVariants.{CountFull}
use Rattle.codes.specs.Counts.{counts, IsPlace, place_in}
use Rattle.codes.proofs.Places.{limit-refused, counted-more}
use Rattle.codes.proofs.counting.raise.Goals as goal

pub returns-in_err-counts : goal.returns-in_err-counts
returns-in_err-counts c n b at =
    let p = err_from_is_err_and c.from_residual-in_err-counts.result c.from_residual-in_err-counts.ensures.1 in
    let list = c.args.counts.now in
    let k : ℕ = c.in_ok-place.place in
    let is = c.in_ok-place.ensures.ok_part in
    let none = c.in_err-counts.ensures.ok_part in
    let over : get_or list k 0 + 1 < 4294967296 → ⊥ = subst (λ o. SomeIff o (get_or list k 0 + 1 < 4294967296) (get_or list k 0 + 1)) none c.checked_add.ensures in
    let fits : get_or list k 0 < 4294967296 = search rules in
    let full = c.in_err-counts.ensures.value ∙ ap (λ o. ok_or o CountFull) none in
    let why : c.in_err-counts.field-0.0 ≡ CountFull = cc in
    rw (p.1, p.2, why) (limit-refused n b list k (sym (ap place_in is) ∙ at) (subst IsPlace is c.requires) (omega (arith, over, fits)))

pub returns : goal.returns
returns c n b at =
    let list = c.args.counts.now in
    let k : ℕ = c.in_ok-place.place in
    let is = c.in_ok-place.ensures.ok_part in
    let some = subst (λ o. SomeIff o (get_or list k 0 + 1 < 4294967296) (get_or list k 0 + 1)) c.in_ok-counts.ensures.ok_part c.checked_add.ensures in
    let long : length list ≡ counts = search rules in
    counted-more n b list k (sym (ap place_in is) ∙ at) (subst IsPlace is c.requires) _ long (λ e. let f : ⊥ = omega (arith, e, some.0) in f) some.1
