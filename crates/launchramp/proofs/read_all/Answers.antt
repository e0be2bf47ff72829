-- `launchramp::read_all`: pieces were read, and their records can be counted. Assumes nothing.
use native.Mathlib.Omega.{arith}
use Rattle.launchramp.proofs.Keeping.{went-none, went-more}
use Rattle.launchramp.proofs.read_all.Goals as goal

pub loop-init : goal.loop-init
loop-init g c = record {
  went = went-none _ _ _ c.requires.tally;
  kept = record { taken = omega arith; there = omega arith };
  countable = omega arith;
  fit = c.requires.fit;
}

pub loop-preserved : goal.loop-preserved
loop-preserved g c =
    let held = c.loop.invariant in
    let turned = c.turn-d.ensures.turned in
    record {
      went = went-more _ _ _ _ _ _ _ _ _ held.went turned;
      kept = turned.kept;
      countable = omega (arith, held.countable, turned.records);
      fit = c.turn-d.ensures.fit;
    }
