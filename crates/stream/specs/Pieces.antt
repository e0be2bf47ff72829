-- A stream as a program reads it: piece by piece, each handed to `print` with what was left of those before. Assumes nothing.
use Rattle.std.specs.Prelude.{ℕ, ◌-◌, ◌≡◌, List, [], ◌∷◌, ◌++◌, ℤ, length, take, drop}
use Rattle.districts.specs.Lent.{Lists}
use Rattle.tally.specs.declared.Tally.{Tally}
use Rattle.tally.specs.Tally.{fresh}
use Rattle.history.specs.Histories.{Call}
use Rattle.history.specs.Turns.{Fresh}
use Rattle.stream.specs.declared.printing.Stop.{Stop}
use Rattle.stream.specs.declared.printing.Stop.TheVariants.{More}
use Rattle.stream.specs.declared.printing.Page.{Page}
use Rattle.stream.specs.Streams.{calls_of}
use Rattle.stream.specs.Desks.{desk_of}
use Rattle.stream.specs.Printing.{Printed, Stopped}

-- where a program stands between two pieces: the register's lists, the tally, the number of records done, the bytes that were read and not
-- taken, why the last piece was left, and all that was written
pub record Standing : Type 0 where
  pub lists : Lists
  pub tally : Tally
  pub records : ℕ
  pub held : List ℕ
  pub stop : Stop
  pub written : List ℕ

-- an empty register, a fresh tally, nothing held and nothing written
pub record Begins (s : Standing) : Type 0 where
  pub lists : Fresh s.lists
  pub tally : s.tally ≡ fresh
  pub records : s.records ≡ 0
  pub held : s.held ≡ []
  pub stop : s.stop ≡ More
  pub written : s.written ≡ []

-- one piece: bytes, perhaps none, were read behind those held; `print` kept its promise of them, whatever lists were lent to it; and what it
-- wrote there was written behind the rest
pub record Piece (s : Standing) (bytes : List ℕ) (e : Standing) : Type 0 where
  pub page : Page
  pub list : List ℤ
  pub list' : List ℤ
  pub to : List ℕ
  pub to' : List ℕ
  pub printed : Printed (s.held ++ bytes) (desk_of s.lists s.tally) s.records list to page.progress e.lists e.tally list' to'
  pub ended : Stopped page.stop (length to - page.progress.filled) (drop page.progress.at (s.held ++ bytes))
  pub records : e.records ≡ page.progress.records
  pub held : e.held ≡ drop page.progress.at (s.held ++ bytes)
  pub stop : e.stop ≡ page.stop
  pub written : e.written ≡ s.written ++ take page.progress.filled to'

-- the bytes of a piece, and where it left the program
pub record Part : Type 0 where
  pub bytes : List ℕ
  pub left : Standing

-- one piece after the other
unfoldable pub Reads : Standing → List Part → Type 0
Reads s [] = Unit
Reads s (p ∷ ps) = Piece s p.bytes p.left × Reads p.left ps

-- where the pieces left the program
unfoldable pub last_of : Standing → List Part → Standing
last_of s [] = s
last_of s (p ∷ ps) = last_of p.left ps

-- all that was read
unfoldable pub bytes_of : List Part → List ℕ
bytes_of [] = []
bytes_of (p ∷ ps) = p.bytes ++ bytes_of ps

-- the calls that are done: the first of those that the bytes hold
abbrev pub done_of : List ℕ → Standing → List Call
done_of bytes s = take s.records (calls_of bytes)
