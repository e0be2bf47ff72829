-- docs/RULES.md, "The record stream": the bytes of a record, put in front of others. Assumes nothing.
use Rattle.std.specs.Prelude.{ℕ, zero, suc, ◌-◌, ◌/◌, ◌%◌, ◌≤◌, ◌<◌, ◌≡◌, List, [], ◌∷◌, ℤ, pos, negsuc, length, T}
use Rattle.std.specs.Float.{binary64}
use Rattle.std.specs.Float.Ieee.{to_bits, fits}
use Rattle.register.specs.declared.Position.{Position}
use Rattle.register.specs.declared.Position.TheVariants.{Grid, Fix, Missing}
use Rattle.history.specs.Histories.{Call, founding, splitting, merging, reporting}
use Rattle.ring.specs.Grid.{most_vertices}
use Rattle.records.specs.Layout.{first_mark, second_mark}

-- a number in so many bytes, the least first
unfoldable pub in_front : ℕ → ℕ → List ℕ → List ℕ
in_front zero n rest = rest
in_front (suc w) n rest = n % 256 ∷ in_front w (n / 256) rest

-- the 32 bits of a signed number
abbrev pub bits : ℤ → ℕ
bits (pos n) = n
bits (negsuc n) = 4294967295 - n

unfoldable pub all_in_front : List ℤ → List ℕ → List ℕ
all_in_front [] rest = rest
all_in_front (x ∷ xs) rest = in_front 4 (bits x) (all_in_front xs rest)

-- a position in kind 5: a byte that says which of the three it is, and its values
unfoldable pub position_in_front : Position → List ℕ → List ℕ
position_in_front Missing rest = 0 ∷ rest
position_in_front (Grid x y) rest = 1 ∷ in_front 4 (bits x) (in_front 4 (bits y) rest)
position_in_front (Fix f) rest = 2 ∷ in_front 8 (to_bits binary64 f.easting) (in_front 8 (to_bits binary64 f.northing) rest)

-- a report as kind 5
unfoldable pub encode_position : ℕ → Position → List ℕ → List ℕ
encode_position r p rest = first_mark ∷ second_mark ∷ 5 ∷ in_front 4 r (position_in_front p rest)

-- a report with a grid position is kind 4, which is shorter; as kind 5 it says the same
unfoldable pub encode_report : ℕ → Position → List ℕ → List ℕ
encode_report r (Grid x y) rest = first_mark ∷ second_mark ∷ 4 ∷ in_front 4 r (in_front 4 (bits x) (in_front 4 (bits y) rest))
encode_report r (Fix f) rest = encode_position r (Fix f) rest
encode_report r Missing rest = encode_position r Missing rest

unfoldable pub encode : Call → List ℕ → List ℕ
encode (founding xs) rest = first_mark ∷ second_mark ∷ 1 ∷ in_front 2 (length xs / 2) (all_in_front xs rest)
encode (splitting d i j path) rest = first_mark ∷ second_mark ∷ 2 ∷ in_front 1 d (in_front 2 i (in_front 2 j (in_front 2 (length path / 2) (all_in_front path rest))))
encode (merging A a B b k) rest = first_mark ∷ second_mark ∷ 3 ∷ in_front 1 A (in_front 2 a (in_front 1 B (in_front 2 b (in_front 2 k rest))))
encode (reporting r p) rest = encode_report r p rest

-- the number fits in 32 signed bits
abbrev pub Fits : ℤ → Type 0
Fits (pos n) = n < 2147483648
Fits (negsuc n) = n < 2147483648

abbrev pub AllFit : List ℤ → Type 0
AllFit [] = Unit
AllFit (x ∷ xs) = Fits x × AllFit xs

-- a list of pairs that a record may announce
pub record Pairs (xs : List ℤ) : Type 0 where
  pub even : length xs % 2 ≡ 0
  pub most : length xs / 2 ≤ most_vertices
  pub fit : AllFit xs

-- a grid position of 32 signed bits, or a fix of doubles
abbrev pub Sendable : Position → Type 0
Sendable (Grid x y) = Fits x × Fits y
Sendable (Fix f) = T (fits binary64 f.easting) × T (fits binary64 f.northing)
Sendable Missing = Unit

-- what a record can hold
abbrev pub Encodable : Call → Type 0
Encodable (founding xs) = Pairs xs
Encodable (splitting d i j path) = (d < 256) × (i < 65536) × (j < 65536) × Pairs path
Encodable (merging A a B b k) = (A < 256) × (a < 65536) × (B < 256) × (b < 65536) × (k < 65536)
Encodable (reporting r p) = (r < 4294967296) × Sendable p
