-- `register::listing::place_listed` sorts a point of the grid only. Assumes nothing.
use Rattle.register.proofs.Given.{taken-grid}
use Rattle.register.proofs.listing.place_listed.Goals as goal

pub sort_listed-requires-clause-on_grid : goal.sort_listed-requires-clause-on_grid
sort_listed-requires-clause-on_grid c = taken-grid c.args.r c.in_ok-on_grid.ensures
