-- How the code's answer says what stands at the front of the bytes, and what decoding leaves in the lent list. Assumes nothing.
use Rattle.std.specs.Prelude.{ℕ, ◌+◌, ◌-◌, ◌*◌, ◌≡◌, ◌≤◌, List, [], ℤ, length, take, Option, Some, None, Result, Ok, Err, IsOkUnless}
use Rattle.districts.specs.Lent.{written}
use Rattle.history.specs.Histories.{Call, founding, splitting, merging, reporting}
use Rattle.records.specs.declared.Decoded.{Decoded}
use Rattle.records.specs.declared.Record as Code
use Rattle.records.specs.declared.Record.TheVariants.{Outline, Split, Merge, Report}
use Rattle.refusals.specs.declared.Refusal.{Refusal}
use Rattle.refusals.specs.declared.Refusal.TheVariants.{BrokenRecord}
use Rattle.ring.specs.Grid.{most_vertices}
use Rattle.records.specs.Bytes.{field, signed_fields}
use Rattle.records.specs.Layout.{Front, whole, more, broken, pairs_front}

-- the coordinates are read off the lent list; a record with coordinates has as many bytes as its count tells, another as many as are taken
abbrev pub record_of : Code.Record → ℕ → List ℤ → Front
record_of (Outline n) taken to = whole (founding (take (2 * n) to)) (5 + 8 * n)
record_of (Split c k) taken to = whole (splitting c.d c.i c.j (take (2 * k) to)) (10 + 8 * k)
record_of (Merge s) taken to = whole (merging s.kept s.a s.gone s.b s.k) taken
record_of (Report s) taken to = whole (reporting s.number s.position) taken

abbrev pub front_of : Result (Option Decoded) Refusal → List ℤ → Front
front_of (Ok (Some d)) to = record_of d.record d.taken to
front_of (Ok None) to = more
front_of (Err r) to = broken

-- how many bytes the answer takes
abbrev pub taken_of : Result (Option Decoded) Refusal → ℕ
taken_of (Ok (Some d)) = d.taken
taken_of (Ok None) = 0
taken_of (Err r) = 0

-- how many bytes what stands there takes
abbrev pub taken_for : Front → ℕ
taken_for (whole c n) = n
taken_for more = 0
taken_for broken = 0

-- the coordinates of a call
abbrev pub pairs_of : Call → List ℤ
pairs_of (founding xs) = xs
pairs_of (splitting d i j path) = path
pairs_of (merging A a B b k) = []
pairs_of (reporting r p) = []

abbrev pub written_for : Front → List ℤ
written_for (whole c n) = pairs_of c
written_for more = []
written_for broken = []

-- the answer is what stands there, with its bytes counted, and the lent list starts with its coordinates and holds after them what it held
pub record Decodes (r : Result (Option Decoded) Refusal) (f : Front) (before after : List ℤ) : Type 0 where
  pub said : front_of r after ≡ f
  pub counted : taken_of r ≡ taken_for f
  pub left : after ≡ written (written_for f) before
  pub refused : IsOkUnless r BrokenRecord

-- so many pairs from a place to the record's end, all there, whose coordinates the lent list starts with
pub record AllPairs (bytes : List ℕ) (at n : ℕ) (before after : List ℤ) : Type 0 where
  pub announced : n ≡ field bytes (at - 2) 2
  pub few : n ≤ most_vertices
  pub there : at + 8 * n ≤ length bytes
  pub left : after ≡ written (signed_fields bytes at (2 * n)) before

-- the answer is how many pairs end the record, whatever call is made of them
abbrev pub HasPairs : Result (Option ℕ) Refusal → List ℕ → ℕ → List ℤ → List ℤ → Type 0
HasPairs (Ok (Some n)) bytes at before after = AllPairs bytes at n before after
HasPairs (Ok None) bytes at before after = ((call : List ℤ → Call) → pairs_front bytes at call ≡ more) × (after ≡ before)
HasPairs (Err r) bytes at before after = (r ≡ BrokenRecord) × ((call : List ℤ → Call) → pairs_front bytes at call ≡ broken) × (after ≡ before)
