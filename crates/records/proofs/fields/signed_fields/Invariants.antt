-- The invariant: the first k are written, the rest is as it was. Assumes nothing.
use Rattle.std.proofs.Common.{◌≡◌}
use lib.Seq.{paste}
use Rattle.records.specs.Bytes.{signed_fields}
use Rattle.records.proofs.fields.signed_fields.Given as goal

abbrev pub invariant-loop-k : goal.invariant-loop-k
invariant-loop-k l = l.to ≡ paste l.initial.to 0 (signed_fields l.bytes l.at l.m) l.k
