-- What printing the records of some bytes answers and leaves. Assumes nothing.
use Rattle.std.specs.Prelude.{ℕ, ◌+◌, ◌-◌, ◌≤◌, ◌<◌, ◌≡◌, true, List, [], ◌∷◌, ℤ, length, drop, Option, Some, None}
use Rattle.districts.specs.Lent.{Lists, formed, written}
use Rattle.history.specs.Histories.{Call}
use Rattle.records.specs.Layout.{front, whole, more, broken}
use Rattle.records.specs.Decoding.{pairs_of}
use Rattle.wording.specs.Text.{Laid}
use Rattle.wording.specs.Lines.{room}
use Rattle.tally.specs.declared.Tally.{Tally}
use Rattle.stream.specs.declared.printing.Stop.{Stop}
use Rattle.stream.specs.declared.printing.Stop.TheVariants.{Full, More, Broken}
use Rattle.stream.specs.declared.printing.Progress.{Progress}
use Rattle.stream.specs.Streams.{Starts}
use Rattle.stream.specs.Desks.{Desk, desk_of, next, through, line_of, lines_from}

-- why printing stopped: no room for a line; or else the beginning of a record at the front of what is left, or a broken one
abbrev pub Stopped : Stop → ℕ → List ℕ → Type 0
Stopped Full places rest = places < room
Stopped More places rest = (room ≤ places) × (front rest ≡ more)
Stopped Broken places rest = (room ≤ places) × (front rest ≡ broken)

-- in front of each call so many places had room for any line
unfoldable pub Roomy : ℕ → ℕ → Desk → List Call → Type 0
Roomy places n k [] = Unit
Roomy places n k (c ∷ cs) = (room ≤ places) × Roomy (places - length (line_of n k c)) (n + 1) (next k c) cs

-- the lent list of coordinates after some calls: each writes its own from the first place on
unfoldable pub noted : List Call → List ℤ → List ℤ
noted [] list = list
noted (c ∷ cs) list = noted cs (written (pairs_of c) list)

-- some first calls of the bytes are done, from desk k on, each where there was room for its line; the lines stand in the lent list, from number
-- n on, and the coordinates of the calls in the other
pub record Printed (bytes : List ℕ) (k : Desk) (n : ℕ) (list : List ℤ) (to : List ℕ) (p : Progress) (l : Lists) (t : Tally) (list' : List ℤ) (to' : List ℕ) : Type 0 where
  pub done : List Call
  pub starts : Starts bytes done (drop p.at bytes)
  pub there : p.at ≤ length bytes
  pub roomy : Roomy (length to) n k done
  pub form : formed l ≡ true
  pub desk : desk_of l t ≡ through k done
  pub records : p.records ≡ n + length done
  pub coordinates : list' ≡ noted done list
  pub text : Laid p.filled 0 (lines_from n k done) to to'
  pub fits : p.filled ≤ length to

-- how many numbers 64 bits can be
abbrev pub numbers : ℕ
numbers = 18_446_744_073_709_551_616

-- ---- one turn. No public promise cites it.

-- the bytes, the lent list and the numbers leave room for another turn
pub record Ready (bytes : List ℕ) (p : Progress) (to : List ℕ) : Type 0 where
  pub there : p.at ≤ length bytes
  pub fits : p.filled ≤ length to
  pub long : length bytes < numbers
  pub countable : p.records + (length bytes - p.at) < numbers

-- a record is done, and its line stands behind the others
pub record Wrote (bytes : List ℕ) (p : Progress) (l : Lists) (t : Tally) (list : List ℤ) (to : List ℕ) (q : Progress) (l' : Lists) (t' : Tally) (list' : List ℤ) (to' : List ℕ) : Type 0 where
  pub call : Call
  pub size : ℕ
  pub is : front (drop p.at bytes) ≡ whole call size
  pub at : q.at ≡ p.at + size
  pub roomy : room ≤ length to - p.filled
  pub form : formed l' ≡ true
  pub desk : desk_of l' t' ≡ next (desk_of l t) call
  pub records : q.records ≡ p.records + 1
  pub coordinates : list' ≡ written (pairs_of call) list
  pub text : Laid q.filled p.filled (line_of p.records (desk_of l t) call) to to'
  pub fits : q.filled ≤ length to

-- nothing is done
pub record Rests (bytes : List ℕ) (p : Progress) (l : Lists) (t : Tally) (list : List ℤ) (to : List ℕ) (stop : Stop) (q : Progress) (l' : Lists) (t' : Tally) (list' : List ℤ) (to' : List ℕ) : Type 0 where
  pub progress : q ≡ p
  pub lists : l ≡ l'
  pub tally : t ≡ t'
  pub coordinates : list ≡ list'
  pub text : to ≡ to'
  pub why : Stopped stop (length to - p.filled) (drop p.at bytes)

abbrev pub TurnedBy : List ℕ → Progress → Lists → Tally → List ℤ → List ℕ → Option Stop → Progress → Lists → Tally → List ℤ → List ℕ → Type 0
TurnedBy bytes p l t list to None q l' t' list' to' = Wrote bytes p l t list to q l' t' list' to'
TurnedBy bytes p l t list to (Some stop) q l' t' list' to' = Rests bytes p l t list to stop q l' t' list' to'
