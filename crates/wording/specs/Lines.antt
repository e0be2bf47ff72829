-- docs/RULES.md, "The lines": the lines that the grouping program prints. Assumes nothing.
use Rattle.std.specs.Prelude.{ℕ, ◌≡◌, List, ◌++◌, ltb, length}
use Rattle.ring.specs.Choices.{pick}
use Rattle.ring.specs.Locate.{Touch, vertex, edge}
use Rattle.districts.specs.Answers.{Belongs, border, one, none, several, belongs}
use Rattle.wording.specs.declared.Kind as CodeKind
use Rattle.wording.specs.declared.Kind.TheVariants.{Outline, Split, Merge, Report, Broken}
use Rattle.wording.specs.declared.Said as CodeSaid
use Rattle.wording.specs.declared.Said.TheVariants.{Ok, OkWith, Sorted, Refused}
use Rattle.wording.specs.Text.{ascii, decimal, laid}

-- a record's kind, a report with its number; `broken` is the record that ends the reading
pub data Kind : Type 0 where
  outline split merge : Kind
  report : ℕ → Kind
  broken : Kind

-- an answer: done, done with a district's number, where a report belongs, or a refusal's number
pub data Said : Type 0 where
  ok : Said
  ok_with : ℕ → Said
  sorted : Belongs → Said
  refused : ℕ → Said

abbrev pub kind_text : Kind → List ℕ
kind_text outline = ascii " outline"
kind_text split = ascii " split"
kind_text merge = ascii " merge"
kind_text (report r) = ascii " report " ++ decimal r
kind_text broken = ascii " record"

-- where on a ring: the lowest index and the highest
abbrev pub touch_text : Touch → List ℕ
touch_text (vertex i j) = ascii " vertex " ++ decimal i ++ ascii " " ++ decimal j
touch_text (edge i j) = ascii " edge " ++ decimal i ++ ascii " " ++ decimal j

abbrev pub belongs_text : Belongs → List ℕ
belongs_text (border d t) = ascii " border " ++ decimal d ++ touch_text t
belongs_text (one d) = ascii " one " ++ decimal d
belongs_text none = ascii " none"
belongs_text (several d n) = ascii " several " ++ decimal d ++ ascii " " ++ decimal n

abbrev pub said_text : Said → List ℕ
said_text ok = ascii " ok"
said_text (ok_with d) = ascii " ok " ++ decimal d
said_text (sorted b) = belongs_text b
said_text (refused n) = ascii " refused " ++ decimal n

-- the record's number, its kind, and the answer
abbrev pub line : ℕ → Kind → Said → List ℕ
line n k s = decimal n ++ kind_text k ++ said_text s ++ ascii "\n"

-- the records read, and the tally with the 64 counts of One summed
abbrev pub end_line : ℕ → ℕ → ℕ → ℕ → ℕ → List ℕ
end_line records ones borders nones severals =
    ascii "end " ++ decimal records ++ ascii " one " ++ decimal ones ++ ascii " border " ++ decimal borders ++ ascii " none " ++ decimal nones ++ ascii " several " ++ decimal severals ++ ascii "\n"

-- how many places a list must have to be lent for a line; no line has as many
abbrev pub room : ℕ
room = 160

-- a line from the first place on, and how long it is; a list that has not the room is left, and 0 answered
pub record Written (r : ℕ) (text before after : List ℕ) : Type 0 where
  pub answered : r ≡ pick (ltb (length before) room) 0 (length text)
  pub left : after ≡ pick (ltb (length before) room) before (laid 0 text before)

abbrev pub kind_of : CodeKind.Kind → Kind
kind_of Outline = outline
kind_of Split = split
kind_of Merge = merge
kind_of (Report r) = report r
kind_of Broken = broken

abbrev pub said_of : CodeSaid.Said → Said
said_of Ok = ok
said_of (OkWith d) = ok_with d
said_of (Sorted c) = sorted (belongs c)
said_of (Refused n) = refused n
