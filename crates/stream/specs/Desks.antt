-- The register and the tally while records are applied, and the lines that the grouping program prints. Assumes nothing.
use Rattle.std.specs.Prelude.{ℕ, ◌+◌, Bool, true, false, List, [], ◌∷◌, ◌++◌, length}
use Rattle.districts.specs.Register.{Register}
use Rattle.districts.specs.Answers.{Answer}
use Rattle.districts.specs.Lent.{Lists, means}
use Rattle.register.specs.Placing.{assigned_at}
use Rattle.tally.specs.declared.Tally.{Tally}
use Rattle.tally.specs.Tally.{fresh, ones_of}
use Rattle.history.specs.Histories.{Call, founding, splitting, merging, reporting, empty, step}
use Rattle.wording.specs.Lines.{line, end_line, broken, refused}
use Rattle.stream.specs.Replies.{replied, tallied_by, kind_of}
use Rattle.stream.specs.Streams.{calls_of, broken_off}

pub record Desk : Type 0 where
  pub register : Register
  pub tally : Tally

-- the desk that lists and a tally are
abbrev pub desk_of : Lists → Tally → Desk
desk_of l t = record { register = means l; tally = t }

-- an empty register and a fresh tally
abbrev pub opening : Desk
opening = record { register = empty; tally = fresh }

-- the desk after a call
abbrev pub next : Desk → Call → Desk
next k c = record { register = step k.register c; tally = tallied_by true k.register k.tally c }

-- one call after the other
unfoldable pub through : Desk → List Call → Desk
through k [] = k
through k (c ∷ cs) = through (next k c) cs

-- a report's answer in front of others; other calls are not counted
abbrev pub heard : Register → Call → List Answer → List Answer
heard g (founding xs) rest = rest
heard g (splitting d i j path) rest = rest
heard g (merging A a B b k) rest = rest
heard g (reporting r p) rest = assigned_at true g r p ∷ rest

-- what assigning answers to the reports of a list of calls
unfoldable pub answers_from : Register → List Call → List Answer
answers_from g [] = []
answers_from g (c ∷ cs) = heard g c (answers_from (step g c) cs)

-- the line of a record with number n
abbrev pub line_of : ℕ → Desk → Call → List ℕ
line_of n k c = line n (kind_of c) (replied true k.register k.tally c)

-- the lines of records from number n on
unfoldable pub lines_from : ℕ → Desk → List Call → List ℕ
lines_from n k [] = []
lines_from n k (c ∷ cs) = line_of n k c ++ lines_from (n + 1) (next k c) cs

-- the line of a record that ends the reading
abbrev pub broken_line : Bool → ℕ → List ℕ
broken_line true n = line n broken (refused 13)
broken_line false n = []

abbrev pub last_line : ℕ → Tally → List ℕ
last_line records t = end_line records (ones_of t) t.border t.none t.several

-- all that is printed for a stream
unfoldable pub output : List ℕ → List ℕ
output bytes = lines_from 0 opening (calls_of bytes) ++ broken_line (broken_off bytes) (length (calls_of bytes)) ++ last_line (length (calls_of bytes)) (through opening (calls_of bytes)).tally
