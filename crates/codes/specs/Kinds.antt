-- The number of each kind of answer, as the code's enum has them. Assumes nothing.
use Rattle.std.specs.Prelude.{ℕ}
use Rattle.codes.specs.declared.telling.Kind.{Kind}
use Rattle.codes.specs.declared.telling.Kind.TheVariants.{Refused, Done, Vertex, Edge, Off, Border, One, None, Several}

abbrev pub kind_of : Kind → ℕ
kind_of Refused = 0
kind_of Done = 1
kind_of Vertex = 2
kind_of Edge = 3
kind_of Off = 4
kind_of Border = 5
kind_of One = 6
kind_of None = 7
kind_of Several = 8
