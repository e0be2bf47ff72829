-- `records::decoding::with_fix` reads easting and northing once they are there. Assumes nothing.
use Rattle.records.proofs.Fronts.{fix-whole}
use Rattle.records.proofs.decoding.with_fix.Goals as goal

pub returns : goal.returns
returns c to = fix-whole c.args.bytes.now to c.reported.result 8 c.double-easting.result c.double-northing.result c.double-easting.ensures c.double-northing.ensures c.if-bytes-lt-FIX.false (c.reported.ensures to)
