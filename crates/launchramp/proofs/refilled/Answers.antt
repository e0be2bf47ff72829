-- `launchramp::refilled` meets its contract: what was left stands in front of what was read. Assumes nothing.
use borrow.Author.Rules.{rules}
use Rattle.launchramp.proofs.Keeping.{onward-more}
use Rattle.launchramp.proofs.refilled.Goals as goal

pub returns-in-To : goal.returns-in-To
returns-in-To g c =
    onward-more _ c.args.d c.args.input.now c.copy_within.new.self _ c.in-To.end c.requires c.copy_within.ensures.after c.in-To.ensures (search rules)
