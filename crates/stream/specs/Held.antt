-- The lists of a desk, and what its index is to them. Assumes nothing.
use Rattle.districts.specs.Lent.{Lists, lent}
use Rattle.index.specs.Both.{Fitting}
use Rattle.stream.specs.declared.desk.Desk.{Desk}

abbrev pub lists_at : Desk → Lists
lists_at d = lent d.ox d.oy d.sx d.sy d.runs

-- the index that is kept, if one is, fits the districts
abbrev pub Fit : Desk → Type 0
Fit d = Fitting d.index d.sx d.sy d.runs
