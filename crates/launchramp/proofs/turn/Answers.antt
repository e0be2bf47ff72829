-- `launchramp::turn` meets its contract: the turn was a piece. Assumes nothing.
use Rattle.launchramp.proofs.Keeping.{turned}
use Rattle.launchramp.proofs.turn.Goals as goal

pub returns-clause-turned : goal.returns-clause-turned
returns-clause-turned g c =
    turned _ _ _ _ _ _ _ _ _ _ c.print-page.result c.requires.held c.print-page.ensures.printed c.print-page.ensures.stopped c.follow.result _ c.follow.ensures
