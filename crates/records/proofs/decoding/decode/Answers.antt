-- `records::decoding::decode` asks for the mark, then goes by the kind byte. Assumes nothing.
use Rattle.std.proofs.Common.{refl, sym, ◌∙◌, arith, get_or}
use Rattle.records.proofs.Fronts.{says, more-needed, broken-found, front-short, front-unmarked, kinded, unknown-kind}
use Rattle.records.proofs.decoding.decode.Goals as goal

pub returns-then-bytes-lt-HEAD : goal.returns-then-bytes-lt-HEAD
returns-then-bytes-lt-HEAD c = more-needed _ c.args.to.now (front-short c.args.bytes.now c.if-bytes-lt-HEAD.true)

pub returns-then-bytes : goal.returns-then-bytes
returns-then-bytes c = broken-found _ c.args.to.now (front-unmarked c.args.bytes.now c.if-bytes-lt-HEAD.false c.if-bytes.true)

pub returns-in-1 : goal.returns-in-1
returns-in-1 c = says _ _ _ _ _ (kinded c.args.bytes.now c.if-bytes-lt-HEAD.false 1 c.if-bytes.false c.in-1.is) c.outline.ensures

pub returns-in-2 : goal.returns-in-2
returns-in-2 c = says _ _ _ _ _ (kinded c.args.bytes.now c.if-bytes-lt-HEAD.false 2 c.if-bytes.false c.in-2.is) c.split.ensures

pub returns-in-3 : goal.returns-in-3
returns-in-3 c = says _ _ _ _ _ (kinded c.args.bytes.now c.if-bytes-lt-HEAD.false 3 c.if-bytes.false c.in-3.is) (c.merge.ensures _)

pub returns-in-4 : goal.returns-in-4
returns-in-4 c = says _ _ _ _ _ (kinded c.args.bytes.now c.if-bytes-lt-HEAD.false 4 c.if-bytes.false c.in-4.is) (c.with_grid.ensures _)

pub returns-in-5 : goal.returns-in-5
returns-in-5 c = says _ _ _ _ _ (kinded c.args.bytes.now c.if-bytes-lt-HEAD.false 5 c.if-bytes.false c.in-5.is) (c.position.ensures _)

pub returns-in_default : goal.returns-in_default
returns-in_default c =
    let bytes = c.args.bytes.now in
    let none = unknown-kind bytes (get_or bytes 2 0) (λ e. omega (arith, e)) (λ e. omega (arith, e)) (λ e. omega (arith, e)) (λ e. omega (arith, e)) (λ e. omega (arith, e)) in
    broken-found _ _ (sym (kinded bytes c.if-bytes-lt-HEAD.false (get_or bytes 2 0) c.if-bytes.false refl) ∙ none)
