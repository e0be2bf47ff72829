-- docs/RULES.md, "The record stream": the records of a whole stream, one behind the other, and what is left behind them. Assumes nothing.
use Rattle.std.specs.Prelude.{ℕ, zero, suc, ◌≡◌, Bool, List, [], ◌∷◌, ltb, length, drop}
use Rattle.history.specs.Histories.{Call}
use Rattle.records.specs.Layout.{Front, whole, more, broken, front}

-- a record, and the calls behind its bytes
abbrev pub and_then : Front → (ℕ → List Call) → List Call
and_then (whole c n) behind = c ∷ behind n
and_then more behind = []
and_then broken behind = []

-- at most so many records
unfoldable pub calls_within : ℕ → List ℕ → List Call
calls_within zero bytes = []
calls_within (suc most) bytes = and_then (front bytes) (λ n. calls_within most (drop n bytes))

-- what is left behind a record; without one, all the bytes
abbrev pub behind_it : Front → List ℕ → (ℕ → List ℕ) → List ℕ
behind_it (whole c n) bytes behind = behind n
behind_it more bytes behind = bytes
behind_it broken bytes behind = bytes

unfoldable pub left_within : ℕ → List ℕ → List ℕ
left_within zero bytes = bytes
left_within (suc most) bytes = behind_it (front bytes) bytes (λ n. left_within most (drop n bytes))

-- every record has bytes, so there are no more records than bytes
unfoldable pub calls_of : List ℕ → List Call
calls_of bytes = calls_within (length bytes) bytes

unfoldable pub left_of : List ℕ → List ℕ
left_of bytes = left_within (length bytes) bytes

-- a cut or a broken record, or trailing bytes: refusal 13
abbrev pub broken_off : List ℕ → Bool
broken_off bytes = ltb 0 (length (left_of bytes))

-- the bytes start with the records of these calls, one behind the other, and the rest is what is behind them
unfoldable pub Starts : List ℕ → List Call → List ℕ → Type 0
Starts bytes [] rest = bytes ≡ rest
Starts bytes (c ∷ cs) rest = (n : ℕ) × (front bytes ≡ whole c n) × Starts (drop n bytes) cs rest
