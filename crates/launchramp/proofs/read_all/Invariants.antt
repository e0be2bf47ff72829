-- `launchramp::read_all`: pieces were read, and their records can be counted. Assumes nothing.
use Prim.Native.Nat.{◌*◌, ◌≤◌}
use Rattle.stream.specs.Held.{lists_at, Fit}
use Rattle.launchramp.specs.Held.{piece, Kept, Went}
use Rattle.launchramp.proofs.read_all.Given as goal

abbrev pub invariant-loop : goal.invariant-loop
invariant-loop g l = record {
  went : Went (lists_at l.initial.desk) l.d l.input (lists_at l.desk) l.desk.tally;
  kept : Kept l.d l.input;
  countable : l.d.records ≤ l.counter * piece;
  fit : Fit l.desk;
}
