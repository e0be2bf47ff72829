-- Numbers as a record's bytes hold them: little-endian, the first byte counting least. Assumes nothing.
use Rattle.std.specs.Prelude.{ℕ, zero, suc, ◌+◌, ◌-◌, ◌*◌, List, [], ◌∷◌, ltb, ℤ, pos, negsuc, take, drop}
use Rattle.ring.specs.Choices.{pick}

unfoldable pub little_endian : List ℕ → ℕ
little_endian [] = 0
little_endian (b ∷ bs) = b + 256 * little_endian bs

-- the number of so many bytes at a place
abbrev pub field : List ℕ → ℕ → ℕ → ℕ
field bytes at width = little_endian (take width (drop at bytes))

-- 32 bits read as a signed number: from 2,147,483,648 on they stand for 4,294,967,296 less
abbrev pub signed : ℕ → ℤ
signed n = pick (ltb n 2147483648) (pos n) (negsuc (4294967295 - n))

-- m signed numbers of 32 bits from a place on
unfoldable pub signed_fields : List ℕ → ℕ → ℕ → List ℤ
signed_fields bytes at zero = []
signed_fields bytes at (suc m) = signed (field bytes at 4) ∷ signed_fields bytes (at + 4) m
