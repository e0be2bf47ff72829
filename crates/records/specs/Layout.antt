-- docs/RULES.md, "The record stream": what stands at the front of a stream's bytes. Assumes nothing.
use Rattle.std.specs.Prelude.{ℕ, ◌+◌, ◌-◌, ◌*◌, not, ◌&&◌, List, ℤ, eqb, ltb, length, Float}
use Rattle.std.specs.Float.{binary64}
use Rattle.std.specs.Float.Ieee.{of_bits}
use Rattle.ring.specs.Choices.{pick}
use Rattle.register.specs.declared.Position.TheVariants.{Grid, Fix, Missing}
use Rattle.ring.specs.Grid.{most_vertices}
use Rattle.history.specs.Histories.{Call, founding, splitting, merging, reporting}
use Rattle.records.specs.Bytes.{field, signed, signed_fields}

-- a record and how many bytes it has; the beginning of one, so that more bytes are needed; or a broken one, refusal 13
pub data Front : Type 0 where
  whole : Call → ℕ → Front
  more : Front
  broken : Front

-- the mark 4F 47 in hex, and the most vertices or points that a record may announce
abbrev pub first_mark : ℕ
first_mark = 79

abbrev pub second_mark : ℕ
second_mark = 71

-- more bytes are needed until there are so many
abbrev pub from : List ℕ → ℕ → Front → Front
from bytes n f = pick (ltb (length bytes) n) more f

-- a record of so many bytes
abbrev pub up_to : List ℕ → ℕ → Call → Front
up_to bytes n c = from bytes n (whole c n)

-- pairs of signed 32-bit x, y from a place on, which end the record; how many (16 bits) stands right before them
abbrev pub pairs_front : List ℕ → ℕ → (List ℤ → Call) → Front
pairs_front bytes at call = from bytes at (pick (ltb most_vertices n) broken (up_to bytes (at + 8 * n) (call (signed_fields bytes at (2 * n)))))
  where
    n : ℕ
    n = field bytes (at - 2) 2

-- kind 1, outline: n (16 bits), n pairs
abbrev pub outline_front : List ℕ → Front
outline_front bytes = pairs_front bytes 5 founding

-- kind 2, split: d (8), i, j, k (16 each), k pairs
abbrev pub split_front : List ℕ → Front
split_front bytes = pairs_front bytes 10 (splitting (field bytes 3 1) (field bytes 4 2) (field bytes 6 2))

-- kind 3, merge: A (8), a (16), B (8), b (16), k (16)
abbrev pub merge_front : List ℕ → Front
merge_front bytes = up_to bytes 11 (merging (field bytes 3 1) (field bytes 4 2) (field bytes 6 1) (field bytes 7 2) (field bytes 9 2))

-- a report r (32), whose position's values from a place on end the record: x and y (signed 32)
abbrev pub grid_front : List ℕ → ℕ → Front
grid_front bytes at = up_to bytes (at + 8) (reporting (field bytes 3 4) (Grid (signed (field bytes at 4)) (signed (field bytes (at + 4) 4))))

-- a double of 64 bits; every pattern of a NaN is read as the one NaN
abbrev pub double : List ℕ → ℕ → Float
double bytes at = of_bits binary64 (field bytes at 8)

-- the same with easting and northing (doubles of 64)
abbrev pub fix_front : List ℕ → ℕ → Front
fix_front bytes at = up_to bytes (at + 16) (reporting (field bytes 3 4) (Fix (record { easting = double bytes at; northing = double bytes (at + 8) })))

-- kind 4, report: r, x, y
abbrev pub report_front : List ℕ → Front
report_front bytes = grid_front bytes 7

-- kind 5, a position: r, a byte 0 for missing, 1 for grid or 2 for fix, then nothing, x and y, or easting and northing
abbrev pub position_front : List ℕ → Front
position_front bytes =
    from bytes 8
    (pick (eqb what 0) (up_to bytes 8 (reporting (field bytes 3 4) Missing))
    (pick (eqb what 1) (grid_front bytes 8)
    (pick (eqb what 2) (fix_front bytes 8) broken)))
  where
    what : ℕ
    what = field bytes 7 1

-- by the kind byte; any other kind is unknown
abbrev pub by_kind : ℕ → List ℕ → Front
by_kind kind bytes =
    pick (eqb kind 1) (outline_front bytes)
    (pick (eqb kind 2) (split_front bytes)
    (pick (eqb kind 3) (merge_front bytes)
    (pick (eqb kind 4) (report_front bytes)
    (pick (eqb kind 5) (position_front bytes) broken))))

-- the mark and the kind byte come first
unfoldable pub front : List ℕ → Front
front bytes = from bytes 3 (pick (not (eqb (field bytes 0 1) first_mark && eqb (field bytes 1 1) second_mark)) broken (by_kind (field bytes 2 1) bytes))
