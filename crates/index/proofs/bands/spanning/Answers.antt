-- `index::bands::spanning`: the lowest and the highest of the bounds so far. Assumes nothing.
use Rattle.std.proofs.Common.{arith, below_more}
use Rattle.std.proofs.lemmas.Int.{ints, to_z-of_z}
use Rattle.index.proofs.bands.spanning.Goals as goal

pub loop-b-preserved : goal.loop-b-preserved
loop-b-preserved c =
    let i = c.loop-b.invariant in
    (grind (arith, ints), grind (arith, ints), below_more _ _ (λ d h. let k = i.2 d h in grind (arith, ints)) (grind (arith, ints, to_z-of_z)), below_more _ _ (λ d h. let k = i.3 d h in grind (arith, ints)) (grind (arith, ints, to_z-of_z)))
