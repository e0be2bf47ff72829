-- `codes::batches::count_all`: after i answers they are counted, told anew at the front, and behind them stands what was there. Assumes nothing.
use mathlib.Core.Path.{◌≡◌}
use borrow.Author.Rules.{rules}
use Rattle.codes.proofs.Batched.{counted_none, counted_next, counted-all}
use Rattle.codes.proofs.batches.count_all.Goals as goal

pub loop-i-init : goal.loop-i-init
loop-i-init c = counted_none c.args.n c.args.answers.now c.args.counts.now

pub loop-i-preserved : goal.loop-i-preserved
loop-i-preserved c =
    let a = c.args in
    let l = c.loop-i in
    counted_next a.n l.i a.answers.now l.answers a.counts.now l.counts l.invariant c.count_told.new.answers c.count_told.new.counts c.loop-i-test.true c.count_told.ensures

pub returns : goal.returns
returns c =
    let a = c.args in
    let l = c.loop-i in
    let all : l.i ≡ a.n = search rules in
    counted-all a.n l.i a.answers.now l.answers a.counts.now l.counts l.invariant all
