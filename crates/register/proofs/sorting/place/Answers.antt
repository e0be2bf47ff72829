-- `register::sorting::place` sorts a point of the grid only. Assumes nothing.
use Rattle.register.proofs.Given.{taken-grid}
use Rattle.register.proofs.sorting.place.Goals as goal

pub sort-requires : goal.sort-requires
sort-requires c = taken-grid c.args.r c.in_ok-on_grid.ensures
