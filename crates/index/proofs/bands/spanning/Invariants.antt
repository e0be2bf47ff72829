-- `index::bands::spanning`: the lowest and the highest of the bounds so far; the first ones lie between them from the start. Assumes nothing.
use Prim.Native.Nat.{ℕ, ◌<◌}
use mathlib.Core.Path.{◌≡◌}
use mathlib.Core.Bool.{true}
use lib.Signed.{le_z}
use Rattle.index.specs.Axis.{low_of, high_of}
use Rattle.index.proofs.bands.spanning.Given as goal

abbrev pub invariant-loop-b : goal.invariant-loop-b
invariant-loop-b l =
    (le_z l.low (low_of l.bounds 0) ≡ true) × (le_z (high_of l.bounds 0) l.high ≡ true)
    × ((d : ℕ) → d < l.b-index → le_z l.low (low_of l.bounds d) ≡ true) × ((d : ℕ) → d < l.b-index → le_z (high_of l.bounds d) l.high ≡ true)
