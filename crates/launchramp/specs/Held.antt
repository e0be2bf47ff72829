-- What the program holds between two turns, and that a turn is one piece of the stream. Assumes nothing.
use Rattle.std.specs.Prelude.{ℕ, ◌+◌, ◌-◌, ◌≤◌, ◌<◌, ◌≡◌, ◌⊎◌, true, List, [], ◌++◌, length, take, drop, Option, Some, None}
use Rattle.districts.specs.Lent.{Lists}
use Rattle.tally.specs.declared.Tally.{Tally}
use Rattle.tally.specs.Tally.{fresh}
use Rattle.stream.specs.declared.printing.Stop.{Stop}
use Rattle.stream.specs.declared.printing.Stop.TheVariants.{More, Broken}
use Rattle.stream.specs.Desks.{broken_line, last_line}
use Rattle.stream.specs.Pieces.{Standing, Piece, Part, Reads, last_of}
use Rattle.launchramp.specs.declared.Reading.{Reading}
use Rattle.launchramp.specs.declared.Ending.{Ending}
use Rattle.launchramp.specs.declared.Ending.TheVariants as Endings
use Rattle.launchramp.specs.declared.ports.Filled.{Filled}
use Rattle.launchramp.specs.declared.ports.Filled.TheVariants.{To, AtEnd, Failed}

-- how long each of the two buffers is
abbrev pub piece : ℕ
piece = 65_536

-- the bytes of the buffer that are not taken yet
abbrev pub waiting : Reading → List ℕ → List ℕ
waiting d input = take (d.end - d.at) (drop d.at input)

-- they stand in the buffer
pub record Kept (d : Reading) (input : List ℕ) : Type 0 where
  pub taken : d.at ≤ d.end
  pub there : d.end ≤ length input

-- where the bytes of the buffer end after a read behind the first n
abbrev pub end_of : Filled → ℕ → ℕ
end_of (To end) n = end
end_of AtEnd n = n
end_of Failed n = n

-- a read leaves the first n bytes, and puts others behind them
pub record Brought (n : ℕ) (r : Filled) (before after : List ℕ) : Type 0 where
  pub behind : n ≤ end_of r n
  pub there : end_of r n ≤ length before
  pub front : take n after ≡ take n before

-- a buffer of its length, and room in the number of records for those of another piece
pub record Held (d : Reading) (input : List ℕ) : Type 0 where
  pub kept : Kept d input
  pub long : length input ≡ piece
  pub countable : d.records ≤ 4_611_686_018_427_387_904

-- why a program reads no further: the input is at its end, and nothing is left, or a cut record; or a broken record stands in front; or a read or a write failed
abbrev pub Ends : Option Ending → Stop → List ℕ → List ℕ → Type 0
Ends None stop held since = Unit {0}
Ends (Some Endings.Whole) stop held since = (stop ≡ More) × (since ≡ []) × (held ≡ [])
Ends (Some Endings.Broken) stop held since = ((stop ≡ More) × (since ≡ []) × (0 < length held)) ⊎ (stop ≡ Broken)
Ends (Some Endings.Failed) stop held since = Unit {0}

-- how a program goes on from where printing stopped: the bytes that were not taken wait in front of others, and if it does not go on it is
-- at an end
pub record Onward (stop : Stop) (d e : Reading) (before after : List ℕ) : Type 0 where
  pub kept : Kept e after
  pub more : List ℕ
  pub bytes : waiting e after ≡ waiting d before ++ more
  pub ended : Ends e.ended stop (waiting d before) more
  pub records : e.records ≡ d.records

-- the program stands where a piece left it, and has read some bytes since
pub record Stands (s : Standing) (d : Reading) (input : List ℕ) (l : Lists) (t : Tally) : Type 0 where
  pub lists : s.lists ≡ l
  pub tally : s.tally ≡ t
  pub records : s.records ≡ d.records
  pub since : List ℕ
  pub bytes : waiting d input ≡ s.held ++ since
  pub ended : Ends d.ended s.stop s.held since

-- a turn leaves as much, and a piece's records at most have come; wherever the program stood, the turn was a piece of what it had read since
pub record Turned (d e : Reading) (before after : List ℕ) (l : Lists) (t : Tally) (m : Lists) (u : Tally) : Type 0 where
  pub kept : Kept e after
  pub records : e.records ≤ d.records + piece
  pub turns : (s : Standing) (at : Stands s d before l t) → (r : Standing) × Piece s at.since r × Stands r e after m u

-- a program that begins with these lists
abbrev pub starting : Lists → Standing
starting l = record { lists = l; tally = fresh; records = 0; held = []; stop = More; written = [] }

-- pieces were read, one after the other, and the program stands where they left it
pub record Went (l : Lists) (d : Reading) (input : List ℕ) (m : Lists) (u : Tally) : Type 0 where
  pub parts : List Part
  pub reads : Reads (starting l) parts
  pub stands : Stands (last_of (starting l) parts) d input m u

-- what the program hands to be written behind the records' lines: the line of a broken record, if one ended the reading, and the end line;
-- nothing where a read or a write failed
abbrev pub last_text : Option Ending → ℕ → Tally → List ℕ
last_text (Some Endings.Failed) n t = []
last_text (Some Endings.Broken) n t = broken_line true n ++ last_line n t
last_text (Some Endings.Whole) n t = last_line n t
last_text None n t = last_line n t

-- a list whose first r places hold a text
pub record Opens (r : ℕ) (text list : List ℕ) : Type 0 where
  pub there : r ≤ length list
  pub first : take r list ≡ text
