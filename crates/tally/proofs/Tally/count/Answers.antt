-- `tally::Tally::count`: the tally is as raising the count says of every report. Assumes nothing.
use Rattle.std.proofs.Common.{rules}
use Rattle.tally.proofs.Tally.count.Goals as goal

pub returns-in_err-self-clause-tally : goal.returns-in_err-self-clause-tally
returns-in_err-self-clause-tally c = let raises = c.in_err-self.ensures c.in_ok-report.report.number in search (rules, raises.0)

pub returns-clause-tally : goal.returns-clause-tally
returns-clause-tally c = let raises = c.in_ok-self.ensures c.in_ok-report.report.number in search (rules, raises.0)
