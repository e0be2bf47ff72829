-- `index::AxisIndex::fill` bounds the runs, lays the axis, and marks the bands: then the index fits. Assumes nothing.
use Rattle.index.proofs.Listing.{index-fits}
use Rattle.index.proofs.AxisIndex.fill.Goals as goal

pub returns-clause-fits : goal.returns-clause-fits
returns-clause-fits c =
    index-fits _ _ c.args.column.now.held _ c.all.ensures _ c.spanning-self.ensures _ c.all-2.ensures
