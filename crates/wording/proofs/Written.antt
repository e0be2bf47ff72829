-- How long the parts of a line are at most, and when a line is written. Assumes nothing.
use Prim.Native.Nat.{ℕ, ◌+◌, ◌≤◌, ◌<◌}
use native.Mathlib.Nat.{zero-add}
use native.Mathlib.Omega.{arith}
use mathlib.Core.Path.{◌≡◌, refl, sym, ◌∙◌}
use mathlib.Core.Bool.{Bool, true, false}
use mathlib.Core.List.{List, ◌++◌}
use lib.Dec.{ltb}
use lib.ListN.{length, length-append}
use borrow.Author.Tests.{lt-ltb, le-ltb, ltb-false}
use Rattle.ring.specs.Locate.{Touch, vertex, edge}
use Rattle.ring.proofs.Pick.{pick_true, pick-false}
use Rattle.districts.specs.Answers.{Belongs, border, one, none, several}
use Rattle.wording.specs.Text.{ascii, decimal, Laid}
use Rattle.wording.specs.Lines.{Kind, outline, split, merge, report, broken, Said, ok, ok_with, sorted, refused, kind_text, touch_text, belongs_text, said_text, line, end_line, room, Written}
use Rattle.wording.proofs.Decimals.{decimal-short, word-short}

pub kind-short : (k : Kind) → length (kind_text k) ≤ 28
unfolding ascii
kind-short outline = omega arith
kind-short split = omega arith
kind-short merge = omega arith
kind-short (report r) = omega (arith, word-short (ascii " report ") r)
kind-short broken = omega arith

-- two numbers behind a word
pair-short : (word : List ℕ) (n m : ℕ) → length (word ++ decimal n ++ ascii " " ++ decimal m) ≤ length word + 41
unfolding ascii
pair-short word n m =
    let first = word ++ decimal n in
    omega (arith, word-short word n, length-append first (ascii " "), word-short (first ++ ascii " ") m)

touch-short : (t : Touch) → length (touch_text t) ≤ 49
unfolding ascii
touch-short (vertex i j) = omega (arith, pair-short (ascii " vertex ") i j)
touch-short (edge i j) = omega (arith, pair-short (ascii " edge ") i j)

belongs-short : (b : Belongs) → length (belongs_text b) ≤ 77
unfolding ascii
belongs-short (border d t) = omega (arith, length-append (ascii " border " ++ decimal d) (touch_text t), word-short (ascii " border ") d, touch-short t)
belongs-short (one d) = omega (arith, word-short (ascii " one ") d)
belongs-short none = omega arith
belongs-short (several d n) = omega (arith, pair-short (ascii " several ") d n)

pub said-short : (s : Said) → length (said_text s) ≤ 77
unfolding ascii
said-short ok = omega arith
said-short (ok_with d) = omega (arith, word-short (ascii " ok ") d)
said-short (sorted b) = belongs-short b
said-short (refused n) = omega (arith, word-short (ascii " refused ") n)

-- ---- with room, and without

pub written : (r : ℕ) (text before after : List ℕ) → room ≤ length before → Laid r 0 text before after → Written r text before after
written r text before after h l = record {
  answered = l.behind ∙ zero-add (length text) ∙ sym (pick-false (le-ltb (length before) room h) _ _);
  left = l.left ∙ sym (pick-false (le-ltb (length before) room h) _ _);
}

pub not_written : (text before : List ℕ) → length before < room → Written 0 text before before
not_written text before h = record { answered = sym (pick_true (lt-ltb (length before) room h) _ _); left = sym (pick_true (lt-ltb (length before) room h) _ _) }

-- no line has as many characters as a list must have room for
pub line-short : (n : ℕ) (k : Kind) (s : Said) → length (line n k s) < room
unfolding ascii
line-short n k s =
    let first = decimal n ++ kind_text k in
    omega (arith, length-append (decimal n) (kind_text k), length-append first (said_text s), length-append (first ++ said_text s) (ascii "\n"), decimal-short n, kind-short k, said-short s)

pub end_short : (records ones borders nones severals : ℕ) → length (end_line records ones borders nones severals) < room
unfolding ascii
end_short records ones borders nones severals =
    let first = ascii "end " ++ decimal records in
    let second = first ++ ascii " one " ++ decimal ones in
    let third = second ++ ascii " border " ++ decimal borders in
    let fourth = third ++ ascii " none " ++ decimal nones in
    let fifth = fourth ++ ascii " several " ++ decimal severals in
    omega (
      arith,
      word-short (ascii "end ") records,
      length-append first (ascii " one "),
      word-short (first ++ ascii " one ") ones,
      length-append second (ascii " border "),
      word-short (second ++ ascii " border ") borders,
      length-append third (ascii " none "),
      word-short (third ++ ascii " none ") nones,
      length-append fourth (ascii " several "),
      word-short (fourth ++ ascii " several ") severals,
      length-append fifth (ascii "\n"),
    )

-- what was written stands in the list
pub written-within : (r : ℕ) (text before after : List ℕ) → length text < room → Written r text before after → r ≤ length before
written-within r text before after short w = say (ltb (length before) room) refl
  where
    say : (b : Bool) → ltb (length before) room ≡ b → r ≤ length before
    say true e = let none : r ≡ 0 = w.answered ∙ pick_true e _ _ in omega (arith, none)
    say false e = let all : r ≡ length text = w.answered ∙ pick-false e _ _ in omega (arith, all, short, ltb-false (length before) room e)
