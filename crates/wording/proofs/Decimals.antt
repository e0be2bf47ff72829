-- The decimal digits of a number: as the library writes them, and how many there are. Assumes nothing.
use Prim.Native.Nat.{ℕ, zero, suc, ◌+◌, ◌*◌, ◌/◌, ◌%◌, ◌^◌, ◌≤◌, ◌<◌}
use native.Mathlib.Omega.{arith}
use mathlib.Core.Path.{◌≡◌, sym, ◌∙◌}
use mathlib.Core.Bool.{Bool, true, false}
use mathlib.Core.List.{List, [], ◌∷◌, ◌++◌, append_assoc}
use lib.Dec.{ltb}
use lib.ListN.{length, length-append}
use borrow.Author.Tests.{lt-ltb, le-ltb}
use Rattle.std.specs.Fmt.{decimal as written}
use Rattle.std.proofs.lemmas.Fmt.{decimal_by_steps}
use Rattle.std.proofs.lemmas.List.{append-nil}
use Rattle.ring.proofs.Pick.{pick_true, pick-false}
use Rattle.ring.specs.Choices.{pick}
use Rattle.wording.specs.declared.text.Line.{Line}
use Rattle.wording.specs.Text.{digit, spelled, decimal, Laid}
use Rattle.wording.specs.Putting.{Put}

-- numbers of at most so many digits are below it
abbrev pub tens : ℕ → ℕ
tens zero = 1
tens (suc k) = 10 * tens k

pub last-digit : (most n : ℕ) (rest : List ℕ) → n ≤ 9 → spelled (suc most) n rest ≡ digit n ∷ rest
unfolding spelled
last-digit most n rest h = pick_true (lt-ltb n 10 (omega arith)) _ _

pub one-digit : (most n : ℕ) (rest : List ℕ) → 9 < n → spelled (suc most) n rest ≡ spelled most (n / 10) (digit (n % 10) ∷ rest)
unfolding spelled
one-digit most n rest h = pick-false (le-ltb n 10 h) _ _

-- ---- what the library writes

-- a number of at most so many digits is spelled by the digits ds
Spells : ℕ → List ℕ → Type 0
Spells n ds = (k : ℕ) (rest : List ℕ) → n < tens (suc k) → spelled (suc k) n rest ≡ ds ++ rest

spells-more : (n : ℕ) (ds : List ℕ) → 10 ≤ n → Spells (n / 10) ds → Spells n (ds ++ ((48 + n % 10) ∷ []))
unfolding Spells
spells-more n ds h s zero rest l = absurd (let f : ⊥ = omega arith in f)
spells-more n ds h s (suc k) rest l = one-digit (suc k) n rest (omega arith) ∙ s k (digit (n % 10) ∷ rest) (omega arith) ∙ sym (append_assoc ds (digit (n % 10) ∷ []) rest)

spells : (n : ℕ) → n < 2 ^ 64 → Spells n (written n)
spells n h = decimal_by_steps Spells (unfold Spells in λ m l k rest _. last-digit k m rest (omega arith)) spells-more n h

pub decimal-written : (n : ℕ) → n < 2 ^ 64 → written n ≡ decimal n
unfolding Spells
decimal-written n h = sym (spells n h 19 [] (omega arith) ∙ append-nil (written n))

-- ---- how many

either-short : (t : Bool) (xs ys : List ℕ) (k : ℕ) → length xs ≤ k → length ys ≤ k → length (pick t xs ys) ≤ k
either-short true xs ys k h j = h
either-short false xs ys k h j = j

spelled-short : (most n : ℕ) (rest : List ℕ) → length (spelled most n rest) ≤ most + length rest
unfolding spelled
spelled-short zero n rest = omega arith
spelled-short (suc most) n rest =
    let more = spelled-short most (n / 10) (digit (n % 10) ∷ rest) in
    either-short (ltb n 10) _ _ (suc most + length rest) (omega arith) (omega (arith, more))

pub decimal-short : (n : ℕ) → length (decimal n) ≤ 20
decimal-short n = spelled-short 20 n []

pub word-short : (word : List ℕ) (n : ℕ) → length (word ++ decimal n) ≤ length word + 20
word-short word n = omega (arith, length-append word (decimal n), decimal-short n)

-- a word and a number end no later than this
pub word-ends : (r at : ℕ) (word : List ℕ) (n : ℕ) (before after : List ℕ) → Laid r at (word ++ decimal n) before after → r ≤ at + length word + 20
word-ends r at word n before after l = omega (arith, l.behind, word-short word n)

-- so does a line after both, in a list as long
pub word-put-ends : (word : List ℕ) (n : ℕ) {before after : Line} → Put (word ++ decimal n) before after → (after.at ≤ before.at + length word + 20) × (length after.to.now ≡ length before.to.now)
word-put-ends word n p = (word-ends _ _ word n _ _ p.laid, p.long)
