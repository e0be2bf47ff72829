-- What the structs that are lent to be written hold. No call's promise cites it. Assumes nothing.
use Rattle.std.specs.Prelude.{◌≡◌, List}
use Rattle.ring.specs.declared.Point.{Point}
use Rattle.ring.specs.Columns.{points}
use Rattle.ring.specs.Grid.{vertices}
use Rattle.room.specs.Runs.{run}
use Rattle.room.specs.declared.store_mut.StoreMut.{StoreMut}
use Rattle.room.specs.declared.piece.Run.{Run}

abbrev pub store_of : StoreMut → List Point
store_of s = points s.sx.now s.sy.now

-- the vertices of a run
abbrev pub run_of : Run → List Point
run_of r = run (vertices r.ring.now) r.from r.many

-- both hold the very same lists of the caller: so what is written to them reaches whoever lent them
abbrev pub SameStore : StoreMut → StoreMut → Type 0
SameStore s t = (s.sx.ghost_name ≡ t.sx.ghost_name) × (s.sy.ghost_name ≡ t.sy.ghost_name) × (s.runs.ghost_name ≡ t.runs.ghost_name)
