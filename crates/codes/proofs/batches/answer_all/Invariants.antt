-- `codes::batches::answer_all`: after i points their answers stand at the front, and behind them what was there. Assumes nothing.
use Prim.Native.Nat.{◌*◌}
use mathlib.Core.Path.{◌≡◌}
use mathlib.Core.List.{◌++◌}
use lib.ListN.{drop}
use Rattle.codes.specs.Batches.{answers_to, answer_by}
use Rattle.codes.proofs.batches.answer_all.Given as goal

abbrev pub invariant-loop-i : goal.invariant-loop-i
invariant-loop-i l =
    let f = answer_by l.store.sx.now l.store.sy.now l.store.runs.list.now l.points in
    l.answers ≡ answers_to f l.i ++ drop (9 * l.i) l.initial.answers
