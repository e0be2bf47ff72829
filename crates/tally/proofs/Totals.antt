-- The sum of all counts is the number of reports that were not refused, from a fresh tally over any list of answers; and a refusal
-- leaves the tally. Assumes nothing.
use Prim.Native.Nat.{ℕ, ◌+◌, ◌<◌}
use native.Mathlib.Omega.{arith}
use mathlib.Core.Path.{◌≡◌, refl}
use mathlib.Core.Bool.{Bool, true, false, cond, ◌||◌}
use mathlib.Core.List.{List, [], ◌∷◌}
use lib.Dec.{leb}
use lib.ListN.{length, get_or, length-set}
use lib.Seq.{get_or-set_same, get_or-set_other}
use borrow.Author.Tests.{leb-false}
use Rattle.districts.specs.Counts.{sum_to}
use Rattle.districts.specs.Register.{numbers}
use Rattle.districts.specs.Answers.{Belongs, border, one, none, several, Answer, report, refused}
use Rattle.tally.specs.declared.Tally.{Tally}
use Rattle.tally.specs.Tally.{fresh, full, raised, tallied, answered, ones_of, sum, run, accepts, accepted}
use Rattle.tally.proofs.Sums.{sum-raised}

-- a tally has a count for each number
abbrev pub Whole : Tally → Type 0
Whole t = length t.ones ≡ numbers

neither : (a b : Bool) → (a || b) ≡ false → a ≡ false
neither true b e = e
neither false b e = refl

-- a number whose count is not full has one
one_has : (t : Tally) (d : ℕ) → full t (one d) ≡ false → d < numbers
one_has t d e = leb-false numbers d (neither (leb numbers d) _ e)

raised-whole : (t : Tally) (b : Belongs) → Whole t → Whole (raised t b)
raised-whole t (border d at) w = w
raised-whole t (one d) w = simp length-set w
raised-whole t none w = w
raised-whole t (several d n) w = w

-- a count that can be raised raises the sum by one
raised-sum : (t : Tally) (b : Belongs) → Whole t → full t b ≡ false → sum (raised t b) ≡ sum t + 1
raised-sum t (border d at) w e = omega arith
raised-sum t (one d) w e =
    let h : d < numbers = one_has t d e in
    let up : ones_of (raised t (one d)) ≡ ones_of t + 1 =
    sum-raised (λ k. get_or t.ones k 0) (λ k. get_or (raised t (one d)).ones k 0) d (get_or-set_same t.ones d _ 0 (omega arith)) (λ k n. get_or-set_other t.ones d k _ 0 n) numbers h in
    omega arith
raised-sum t none w e = omega arith
raised-sum t (several d n) w e = omega arith

-- one report, with the outcome of the test f
module _ (t : Tally) (r : ℕ) (b : Belongs) (w : Whole t) where
  report-whole : (f : Bool) → Whole (cond f t (raised t b))
  report-whole true = w
  report-whole false = raised-whole t b w

  report-sum : (f : Bool) → full t b ≡ f → sum (cond f t (raised t b)) ≡ sum t + accepts (cond f (refused 14) (report r b))
  report-sum true e = omega arith
  report-sum false e = raised-sum t b w e

tallied-whole : (t : Tally) (a : Answer) → Whole t → Whole (tallied t a)
tallied-whole t (report r b) w = report-whole t r b w (full t b)
tallied-whole t (refused n) w = w

-- one answer raises the sum by one, or by nothing where it is refused
pub tallied-sum : (t : Tally) (a : Answer) → Whole t → sum (tallied t a) ≡ sum t + accepts (answered t a)
tallied-sum t (report r b) w = report-sum t r b w (full t b) refl
tallied-sum t (refused n) w = omega arith

pub run-sum : (t : Tally) (answers : List Answer) → Whole t → sum (run t answers) ≡ sum t + accepted t answers
unfolding run accepted
run-sum t [] w = omega arith
run-sum t (a ∷ rest) w =
    let later : sum (run (tallied t a) rest) ≡ sum (tallied t a) + accepted (tallied t a) rest = run-sum (tallied t a) rest (tallied-whole t a w) in
    let first : sum (tallied t a) ≡ sum t + accepts (answered t a) = tallied-sum t a w in
    omega arith

fresh-sum : sum fresh ≡ 0
unfolding sum_to
fresh-sum = refl

-- the rules: from a fresh tally, the sum of all its counts is the number of reports that were not refused
pub sum-counts : (answers : List Answer) → sum (run fresh answers) ≡ accepted fresh answers
sum-counts answers =
    let all : sum (run fresh answers) ≡ sum fresh + accepted fresh answers = run-sum fresh answers refl in
    let nothing : sum fresh ≡ 0 = fresh-sum in
    omega arith

-- whichever refusal is answered, the tally holds what it held
refusal-of-report : (t : Tally) (r n : ℕ) (b : Belongs) (f : Bool) → cond f (refused 14) (report r b) ≡ refused n → cond f t (raised t b) ≡ t
refusal-of-report t r n b true e = refl
refusal-of-report t r n b false e = cc

pub refusal-keeps : (t : Tally) (a : Answer) (n : ℕ) → answered t a ≡ refused n → tallied t a ≡ t
refusal-keeps t (report r b) n e = refusal-of-report t r n b (full t b) e
refusal-keeps t (refused m) n e = refl
