-- `Packing::mark` puts d's start into the table, or d has none that fits. Assumes nothing.
use Prim.Native.Nat.{◌<◌, ◌≤◌}
use native.Mathlib.Omega.{arith}
use mathlib.Core.Path.{refl, sym, ◌∙◌}
use lib.Dec.{ltb}
use borrow.Author.Tests.{ltb-true, ltb-false, lt-ltb}
use Rattle.districts.specs.Lists.{first_place, size}
use Rattle.districts.proofs.Tests.{both_left, both_right, goes_on}
use Rattle.districts.proofs.Marks.{marked-with, marked-without}
use Rattle.districts.proofs.packing.Packing.mark.Goals as goal

pub returns-then-size-place : goal.returns-then-size-place
returns-then-size-place c =
    let is-used : 0 < c.size.result = ltb-true 0 _ (both_left (ltb 0 c.size.result) _ c.if-size-place.true) in
    let fits : c.first_place-place.result < 2048 = ltb-true _ 2048 (both_right (ltb 0 c.size.result) _ c.if-size-place.true) in
    let used : 0 < size c.args.self.now.runs.list.now c.args.d = omega (arith, c.size.ensures.0) in
    marked-with _ _ _ c.requires.marked _ refl used _ c.first_place-place.ensures.0 fits

pub returns-else-size-place : goal.returns-else-size-place
returns-else-size-place c =
    let runs = c.args.self.now.runs.list.now in
    let beyond : 0 < size runs c.args.d → 2048 ≤ first_place runs c.args.d = λ u.
    let far : 2048 ≤ c.first_place-place.result = ltb-false _ 2048 (sym (goes_on (lt-ltb 0 c.size.result (omega (arith, c.size.ensures.0))) _) ∙ c.if-size-place.false) in
    omega (arith, c.first_place-place.ensures.0) in
    marked-without _ _ _ c.requires.marked beyond
