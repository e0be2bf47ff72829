-- `records::decoding::merge` reads its fields once they are there. Assumes nothing.
use Rattle.records.proofs.Reading.{one_byte}
use Rattle.records.proofs.Fronts.{merge-whole}
use Rattle.records.proofs.decoding.merge.Goals as goal
use Rattle.std.proofs.Common.{arith}

pub returns : goal.returns
returns c to =
    let bytes = c.args.bytes.now in
    merge-whole bytes to _ (one_byte bytes 3 (omega arith)) c.two.ensures (one_byte bytes 6 (omega arith)) c.two-2.ensures c.two-3.ensures c.if-bytes-lt-MERGE.false
