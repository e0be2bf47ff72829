-- Words and numbers as bytes, and bytes laid over a lent list. Assumes nothing.
use Rattle.std.specs.Prelude.{ℕ, zero, suc, ◌+◌, ◌*◌, ◌-◌, ◌/◌, ◌%◌, ◌≡◌, List, [], ◌∷◌, ◌++◌, ltb, length, take, drop}
use Prim.Native.Char.{code}
use Prim.Native.String.{String, [] as no_text, ◌∷◌ as ◌then◌}
use Rattle.ring.specs.Choices.{pick}

-- the characters of a text; all of ours are ASCII, one byte each
unfoldable pub ascii : String → List ℕ
ascii no_text = []
ascii (c then s) = code c ∷ ascii s

-- the character of a digit; that of 0 is 48
abbrev pub digit : ℕ → ℕ
digit n = 48 + n

-- the decimal digits of a number, without leading zeros, in front of what follows; at most so many
unfoldable pub spelled : ℕ → ℕ → List ℕ → List ℕ
spelled zero n rest = rest
spelled (suc most) n rest = pick (ltb n 10) (digit n ∷ rest) (spelled most (n / 10) (digit (n % 10) ∷ rest))

-- a number of 64 bits has at most 20
abbrev pub decimal : ℕ → List ℕ
decimal n = spelled 20 n []

-- the number that digits make, the first one counting most, behind one that is read already
unfoldable pub value_from : ℕ → List ℕ → ℕ
value_from n [] = n
value_from n (c ∷ cs) = value_from (10 * n + (c - digit 0)) cs

abbrev pub value_of : List ℕ → ℕ
value_of cs = value_from 0 cs

-- a list that holds a text from a place on, and elsewhere what it held
abbrev pub laid : ℕ → List ℕ → List ℕ → List ℕ
laid at text before = take at before ++ text ++ drop (at + length text) before

-- a text that was laid from a place on, and the place behind it as the answer
pub record Laid (r at : ℕ) (text before after : List ℕ) : Type 0 where
  pub behind : r ≡ at + length text
  pub left : after ≡ laid at text before
