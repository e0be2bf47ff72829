-- `register::founding::judged` asks in the rules' order. Assumes nothing.
use Prim.Native.Nat.{ℕ}
use native.Mathlib.Omega.{arith}
use mathlib.Core.Path.{◌≡◌, sym, ap, ◌∙◌}
use mathlib.Core.Bool.{Bool, true, false, not}
use lib.Dec.{eqb}
use borrow.Author.Tests.{eq-eqb, ne_eqb}
use Rattle.std.proofs.lemmas.Result.{err_from_is_err_and}
use Rattle.refusals.proofs.Verdicts.{refused-by, left-to, passed-all}
use Rattle.districts.specs.Register.{in_use}
use Rattle.districts.specs.Lists.{outline_size}
use Rattle.districts.specs.Lent.{Lists, outline_of, store_of, means}
use Rattle.districts.specs.Held.{lists_of}
use Rattle.districts.proofs.Lent.{outline-in-use}
use Rattle.register.proofs.founding.judged.Goals as goal

-- whether there is an outline is told by its size
outlined : (l : Lists) (n : ℕ) (b : Bool) → n ≡ outline_size l.runs → not (eqb n 0) ≡ b → in_use (means l).outline ≡ b
outlined l n b e f = outline-in-use (outline_of l) (store_of l) l.runs ∙ ap (λ n. not (eqb n 0)) (sym e) ∙ f

pub returns-in_err-store : goal.returns-in_err-store
returns-in_err-store c =
    let p = err_from_is_err_and c.from_residual.result c.from_residual.ensures.1 in
    let known = c.in_err-store.ensures in
    rw (p.1, p.2, known.1) (refused-by 1 _ _ (ap not known.0))

pub returns-then-outline_size-gt0 : goal.returns-then-outline_size-gt0
returns-then-outline_size-gt0 c =
    let known = c.in_ok-store.ensures in
    let size = c.outline_size.ensures.0 ∙ ap outline_size known.1.2 in
    left-to 1 _ _ (ap not known.0) (refused-by 3 _ _ (outlined (lists_of c.args.lists.now) _ true size (ap not (ne_eqb _ 0 (λ (e : c.outline_size.result ≡ 0). omega arith)))))

pub returns-then-no_ring : goal.returns-then-no_ring
returns-then-no_ring c =
    let known = c.in_ok-store.ensures in
    let size = c.outline_size.ensures.0 ∙ ap outline_size known.1.2 in
    left-to 1 _ _ (ap not known.0)
    (left-to 3 _ _ (outlined (lists_of c.args.lists.now) _ false size (ap not (eq-eqb _ 0 (omega arith))))
    (refused-by 4 _ _ (sym c.no_ring.ensures ∙ c.if-no_ring.true)))

pub returns-then-some_beyond : goal.returns-then-some_beyond
returns-then-some_beyond c =
    let known = c.in_ok-store.ensures in
    let size = c.outline_size.ensures.0 ∙ ap outline_size known.1.2 in
    left-to 1 _ _ (ap not known.0)
    (left-to 3 _ _ (outlined (lists_of c.args.lists.now) _ false size (ap not (eq-eqb _ 0 (omega arith))))
    (left-to 4 _ _ (sym c.no_ring.ensures ∙ c.if-no_ring.false)
    (refused-by 5 _ _ (sym c.some_beyond.ensures ∙ c.if-some_beyond.true))))

pub returns : goal.returns
returns c =
    let known = c.in_ok-store.ensures in
    let size = c.outline_size.ensures.0 ∙ ap outline_size known.1.2 in
    left-to 1 _ _ (ap not known.0)
    (left-to 3 _ _ (outlined (lists_of c.args.lists.now) _ false size (ap not (eq-eqb _ 0 (omega arith))))
    (left-to 4 _ _ (sym c.no_ring.ensures ∙ c.if-no_ring.false)
    (left-to 5 _ _ (sym c.some_beyond.ensures ∙ c.if-some_beyond.false) (sym passed-all))))
