-- The first test that holds, test by test. Assumes nothing.
use Prim.Native.Nat.{ℕ}
use native.Mathlib.Omega.{arith}
use mathlib.Core.Path.{◌≡◌, refl, sym, ◌∙◌}
use mathlib.Core.Bool.{Bool, true, false}
use mathlib.Core.List.{List, [], ◌∷◌, ◌++◌}
use Rattle.refusals.specs.Verdicts.{Test, ◌if◌, Verdict, accept, refuse, verdict}

pub stops_at : (n : ℕ) (b : Bool) (ts : List Test) → b ≡ true → verdict ((n if b) ∷ ts) ≡ refuse n
unfolding verdict
stops_at n b ts e = λ i. verdict ((n if e i) ∷ ts)

pub passes : (n : ℕ) (b : Bool) (ts : List Test) → b ≡ false → verdict ((n if b) ∷ ts) ≡ verdict ts
unfolding verdict
passes n b ts e = λ i. verdict ((n if e i) ∷ ts)

pub passed-all : verdict [] ≡ accept
unfolding verdict
passed-all = refl

-- the same, as a chain of tests is asked: refused by this test, or by the rest behind it
pub refused-by : (n : ℕ) (b : Bool) (ts : List Test) → b ≡ true → refuse n ≡ verdict ((n if b) ∷ ts)
refused-by n b ts e = sym (stops_at n b ts e)

pub left-to : (n : ℕ) (b : Bool) (ts : List Test) {v : Verdict} → b ≡ false → v ≡ verdict ts → v ≡ verdict ((n if b) ∷ ts)
left-to n b ts e f = f ∙ sym (passes n b ts e)

-- what an acceptance tells: the first condition does not hold, and the others are accepted
pub accepted : (n : ℕ) (b : Bool) (ts : List Test) → verdict ((n if b) ∷ ts) ≡ accept → (b ≡ false) × (verdict ts ≡ accept)
unfolding verdict
accepted n true ts e = let clash : ◌≡◌ {A = ℕ} 0 1 = cc in absurd (let f : ⊥ = omega arith in f)
accepted n false ts e = (refl, e)

-- a refusal by the first of the tests is one by all of them, and behind tests that accept the others decide
pub stops-early : (n : ℕ) (ts us : List Test) → verdict ts ≡ refuse n → verdict (ts ++ us) ≡ refuse n
unfolding verdict
stops-early n [] us e = let clash : ◌≡◌ {A = ℕ} 0 1 = cc in absurd (let f : ⊥ = omega arith in f)
stops-early n ((m if true) ∷ ts) us e = e
stops-early n ((m if false) ∷ ts) us e = stops-early n ts us e

pub passes-first : (ts us : List Test) → verdict ts ≡ accept → verdict (ts ++ us) ≡ verdict us
unfolding verdict
passes-first [] us e = refl
passes-first ((m if true) ∷ ts) us e = let clash : ◌≡◌ {A = ℕ} 0 1 = cc in absurd (let f : ⊥ = omega arith in f)
passes-first ((m if false) ∷ ts) us e = passes-first ts us e
