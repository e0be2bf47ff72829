-- The decimal digits of a number mean what a reader of the lines takes them for: digits only, that make the number, without a zero in
-- front. Assumes nothing.
use Prim.Native.Nat.{ℕ, zero, suc, ◌+◌, ◌*◌, ◌-◌, ◌/◌, ◌%◌, ◌≤◌, ◌<◌}
use native.Mathlib.Decide.{dec_lt}
use native.Mathlib.Omega.{arith}
use mathlib.Core.Path.{◌≡◌, sym, ap, ◌∙◌, subst}
use mathlib.Core.List.{List, [], ◌∷◌}
use lib.ListN.{length, get_or}
use Rattle.wording.specs.Text.{digit, spelled, decimal, value_from, value_of}
use Rattle.wording.proofs.Decimals.{tens, last-digit, one-digit}

-- every character is that of a digit
abbrev pub Digits : List ℕ → Type 0
Digits cs = (k : ℕ) → k < length cs → (digit 0 ≤ get_or cs k 0) × (get_or cs k 0 ≤ digit 9)

one_more : (n : ℕ) (cs : List ℕ) → n ≤ 9 → Digits cs → Digits (digit n ∷ cs)
one_more n cs h ds zero b = (omega arith, omega arith)
one_more n cs h ds (suc k) b = ds k (omega arith)

spelled-digits : (most n : ℕ) (rest : List ℕ) → Digits rest → Digits (spelled most n rest)
unfolding spelled
spelled-digits zero n rest ds = ds
spelled-digits (suc most) n rest ds = elim (dec_lt n 10) [
  | yes a ↦ subst Digits (sym (last-digit most n rest (omega arith))) (one_more n rest (omega arith) ds)
  | no b ↦ subst Digits (sym (one-digit most n rest (omega arith))) (spelled-digits most (n / 10) (digit (n % 10) ∷ rest) (one_more (n % 10) rest (omega arith) ds))
]

pub only-digits : (n : ℕ) → Digits (decimal n)
only-digits n = spelled-digits 20 n [] (λ k b. absurd (let f : ⊥ = omega arith in f))

value-spelled : (most n : ℕ) (rest : List ℕ) → n < tens most → value_from 0 (spelled most n rest) ≡ value_from n rest
unfolding spelled value_from
value-spelled zero n rest h = ap (λ k. value_from k rest) (let e : 0 ≡ n = omega arith in e)
value-spelled (suc most) n rest h = elim (dec_lt n 10) [
  | yes a ↦ ap (value_from 0) (last-digit most n rest (omega arith)) ∙ ap (λ k. value_from k rest) (let e : 10 * 0 + (digit n - digit 0) ≡ n = omega arith in e)
  | no b ↦ ap (value_from 0) (one-digit most n rest (omega arith)) ∙ value-spelled most (n / 10) (digit (n % 10) ∷ rest) (omega arith) ∙ ap (λ k. value_from k rest) (let e : 10 * (n / 10) + (digit (n % 10) - digit 0) ≡ n = omega arith in e)
]

pub reads-back : (n : ℕ) → n < tens 20 → value_of (decimal n) ≡ n
unfolding value_from
reads-back n h = value-spelled 20 n [] h

last-zero : (most n : ℕ) (rest cs : List ℕ) → n ≤ 9 → spelled (suc most) n rest ≡ digit 0 ∷ cs → n ≡ 0
last-zero most n rest cs h e = let first = ap (λ l. get_or l 0 0) (sym (last-digit most n rest h) ∙ e) in omega (arith, first)

first-zero : (most n : ℕ) (rest cs : List ℕ) → n < tens (suc most) → spelled (suc most) n rest ≡ digit 0 ∷ cs → n ≡ 0
first-zero zero n rest cs h e = last-zero zero n rest cs (omega arith) e
first-zero (suc most) n rest cs h e = elim (dec_lt n 10) [
  | yes a ↦ last-zero (suc most) n rest cs (omega arith) e
  | no b ↦
      let none : n / 10 ≡ 0 = first-zero most (n / 10) (digit (n % 10) ∷ rest) cs (omega arith) (sym (one-digit (suc most) n rest (omega arith)) ∙ e) in
      omega (arith, none)
]

pub no-leading-zero : (n : ℕ) (cs : List ℕ) → n < tens 20 → decimal n ≡ digit 0 ∷ cs → n ≡ 0
no-leading-zero n cs h e = first-zero 19 n [] cs h e
