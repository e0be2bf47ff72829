-- An index along both axes, and one that is kept while its register changes. Assumes nothing.
use Rattle.std.specs.Prelude.{ℕ, ◌<◌, ◌≡◌, List, ℤ, Option, Some, None}
use Rattle.index.specs.declared.AxisIndex.{AxisIndex}
use Rattle.index.specs.declared.Index.{Index}
use Rattle.index.specs.declared.column.Column.{Column}
use Rattle.districts.specs.Lists.{size}
use Rattle.index.specs.Axis.{Fits}

abbrev pub FitsColumn : Column → AxisIndex → Type 0
FitsColumn c i = Fits c.numbers.now c.runs.list.now i.bounds i.masks i.axis

-- no number is used
abbrev pub NoneUsed : List ℕ → Type 0
NoneUsed runs = (d : ℕ) → d < 64 → size runs d ≡ 0

-- it fits along x and along y
pub record Indexed (sx sy : List ℤ) (runs : List ℕ) (i : Index) : Type 0 where
  pub across : Fits sx runs i.x.bounds i.x.masks i.x.axis
  pub up : Fits sy runs i.y.bounds i.y.masks i.y.axis

-- where one is kept, it fits these columns and runs
abbrev pub Fitting : Option Index → List ℤ → List ℤ → List ℕ → Type 0
Fitting None sx sy runs = Unit {0}
Fitting (Some i) sx sy runs = Indexed sx sy runs i
