-- `records::decoding::position` goes by the byte that says which of the three it is. Assumes nothing.
use Rattle.std.proofs.Common.{sym, ◌∙◌, arith, get_or}
use Rattle.records.proofs.Reading.{one_byte}
use Rattle.records.proofs.Fronts.{says, enough, what-told, unknown-what, broken-found}
use Rattle.records.proofs.decoding.position.Goals as goal

pub returns-in-0 : goal.returns-in-0
returns-in-0 c to =
    let bytes = c.args.bytes.now in
    let told = what-told bytes 0 c.if-bytes-lt-POSITION_HEAD.false (sym c.in-0.is ∙ one_byte bytes 7 (omega arith)) in
    says _ _ _ to to (sym (enough bytes 8 _ c.if-bytes-lt-POSITION_HEAD.false) ∙ told) (c.reported.ensures to)

pub returns-in-1 : goal.returns-in-1
returns-in-1 c to =
    let bytes = c.args.bytes.now in
    says _ _ _ to to (what-told bytes 1 c.if-bytes-lt-POSITION_HEAD.false (sym c.in-1.is ∙ one_byte bytes 7 (omega arith))) (c.with_grid.ensures to)

pub returns-in-2 : goal.returns-in-2
returns-in-2 c to =
    let bytes = c.args.bytes.now in
    says _ _ _ to to (what-told bytes 2 c.if-bytes-lt-POSITION_HEAD.false (sym c.in-2.is ∙ one_byte bytes 7 (omega arith))) (c.with_fix.ensures to)

pub returns-in_default : goal.returns-in_default
returns-in_default c to =
    let bytes = c.args.bytes.now in
    let none = unknown-what bytes (get_or bytes 7 0) (λ e. omega (arith, e)) (λ e. omega (arith, e)) (λ e. omega (arith, e)) in
    broken-found _ to (sym (what-told bytes _ c.if-bytes-lt-POSITION_HEAD.false (one_byte bytes 7 (omega arith))) ∙ none)
