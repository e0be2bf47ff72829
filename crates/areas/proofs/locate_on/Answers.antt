-- `areas::locate_on` passes one ring after the other. The invariant: what is known of the area when k rings of it were passed (`Past`). Assumes nothing.
use native.Mathlib.Omega.{arith}
use mir.Syntax.{w32}
use mir.Val.{SFits}
use mir.Facts.{to_z-of_z}
use borrow.Author.Rules.{rules}
use Rattle.areas.proofs.Past.{past_all, Read, past_end, next-inside, next-ready, next-on, next-off, next-fits}
use Rattle.areas.proofs.locate_on.Goals as goal

pub returns-then-n-eq0 : goal.returns-then-n-eq0
returns-then-n-eq0 c =
    let a = c.args in
    let l = c.loop-k in
    let read : Read a.xs.now a.ys.now a.sizes.now a.r _ l.at l.k = record { ready = c.requires; past = l.invariant; low = omega (arith, c.loop-k-test.true, c.requires.nine) } in
    past_end read c.if-n-eq0.true

pub slice_bounds-ring-end : goal.slice_bounds-ring-end
slice_bounds-ring-end c =
    let a = c.args in
    let l = c.loop-k in
    let read : Read a.xs.now a.ys.now a.sizes.now a.r _ l.at l.k = record { ready = c.requires; past = l.invariant; low = omega (arith, c.loop-k-test.true, c.requires.nine) } in
    let inside = next-inside read c.if-n-eq0.false in
    search rules

pub invariant_of-ring : goal.invariant_of-ring
invariant_of-ring c =
    let a = c.args in
    let l = c.loop-k in
    let read : Read a.xs.now a.ys.now a.sizes.now a.r _ l.at l.k = record { ready = c.requires; past = l.invariant; low = omega (arith, c.loop-k-test.true, c.requires.nine) } in
    record { ring = next-ready read c.if-n-eq0.false }

pub returns-in-On : goal.returns-in-On
returns-in-On c =
    let a = c.args in
    let l = c.loop-k in
    let read : Read a.xs.now a.ys.now a.sizes.now a.r _ l.at l.k = record { ready = c.requires; past = l.invariant; low = omega (arith, c.loop-k-test.true, c.requires.nine) } in
    next-on read c.if-n-eq0.false _ c.in-On.ensures

pub overflow_add-about : goal.overflow_add-about
overflow_add-about c =
    let a = c.args in
    let l = c.loop-k in
    let read : Read a.xs.now a.ys.now a.sizes.now a.r _ l.at l.k = record { ready = c.requires; past = l.invariant; low = omega (arith, c.loop-k-test.true, c.requires.nine) } in
    let f : SFits w32 c.in-Off.w.0 = search rules in
    simp (to_z-of_z f) (next-fits read c.if-n-eq0.false _ _ c.in-Off.ensures)

pub loop-k-preserved : goal.loop-k-preserved
loop-k-preserved c =
    let a = c.args in
    let l = c.loop-k in
    let read : Read a.xs.now a.ys.now a.sizes.now a.r _ l.at l.k = record { ready = c.requires; past = l.invariant; low = omega (arith, c.loop-k-test.true, c.requires.nine) } in
    let f : SFits w32 c.in-Off.w.0 = search rules in
    let sum = next-fits read c.if-n-eq0.false _ _ c.in-Off.ensures in
    simp (to_z-of_z f, to_z-of_z sum) (next-off read c.if-n-eq0.false _ _ c.in-Off.ensures)

pub returns : goal.returns
returns c =
    past_all c.args.xs.now c.args.ys.now c.args.sizes.now c.args.r _ _ _ c.requires c.loop-k.invariant (omega (arith, c.loop-k-test.false, c.requires.nine))
