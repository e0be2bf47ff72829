-- `areas::lengths::no_rings` counts down the points. The invariant: the points left and the lengths left decide (`Left`). Assumes nothing.
use native.Mathlib.Omega.{arith}
use borrow.Author.Tests.{lt-ltb, le-ltb}
use Rattle.areas.proofs.Used.{left_end, Read, left-late, left-more}
use Rattle.areas.proofs.lengths.no_rings.Goals as goal

pub returns-then-n-left : goal.returns-then-n-left
returns-then-n-left c =
    let a = c.args in
    let read : Read a.points a.lengths.now c.loop-length.left c.loop-length.length-index = record { before = c.loop-length.invariant; low = c.loop-length-test.true } in
    left-late read c.if-n-left.true

pub loop-length-preserved : goal.loop-length-preserved
loop-length-preserved c =
    let a = c.args in
    let read : Read a.points a.lengths.now c.loop-length.left c.loop-length.length-index = record { before = c.loop-length.invariant; low = c.loop-length-test.true } in
    left-more read c.if-n-left.false

pub returns : goal.returns
returns c =
    let a = c.args in
    left_end a.points a.lengths.now c.loop-length.left c.loop-length.length-index c.loop-length.invariant c.loop-length-test.false _ (λ some. omega (arith, lt-ltb, some)) (λ none. omega (arith, le-ltb, none))
