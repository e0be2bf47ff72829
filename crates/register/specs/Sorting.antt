-- docs/RULES.md, "The register", assigning: where a point belongs in a register. Assumes nothing.
use Rattle.std.specs.Prelude.{ℕ, Bool, true, false, not, ◌||◌, List, [], ◌∷◌, ◌++◌, ltb, eqb, ℤ, pos}
use Rattle.exact.specs.Sign.{eq_z}
use Rattle.ring.specs.declared.Point.{Point}
use Rattle.ring.specs.Grid.{point, beyond}
use Rattle.ring.specs.Choices.{pick, count}
use Rattle.ring.specs.Locate.{Touch, vertex, Place, on, off, refused, lowest, located_on}
use Rattle.districts.specs.Counts.{sum_to}
use Rattle.districts.specs.Register.{Slot, unused, ring, Register, numbers, slot}
use Rattle.districts.specs.Lent.{beginning}
use Rattle.districts.specs.Answers as Answers
use Rattle.districts.specs.Answers.{Belongs, border, one, none, several, Answer, report}
use Rattle.refusals.specs.Verdicts.{Test, ◌if◌, Verdict, accept, refuse, verdict}

-- on a ring: at a vertex or on an edge
abbrev pub rests : Place → Bool
rests (on t) = true
rests (off w o) = false
rests (refused n) = false

-- off a ring, with a winding number that is not 0
abbrev pub winds : Place → Bool
winds (on t) = false
winds (off w o) = not (eq_z w (pos 0))
winds (refused n) = false

-- where on a ring; off it the answer has no meaning
abbrev pub rests_at : Place → Touch
rests_at (on t) = t
rests_at (off w o) = vertex 0 0
rests_at (refused n) = vertex 0 0

-- where R lies to the ring of a number; to an unused one it lies off, and nothing winds about it
abbrev pub lies_to : Point → Slot → Place
lies_to R unused = off (pos 0) false
lies_to R (ring P) = located_on P R

-- by how many numbers it winds about, m, of which l is the lowest
abbrev pub by_count : ℕ → ℕ → Belongs
by_count m l = pick (eqb m 0) none (pick (eqb m 1) (one l) (several l m))

-- Border(b) for the lowest number b on whose ring it is, and t where on that ring; otherwise by how many it winds about
abbrev pub sorted : ℕ → Touch → ℕ → ℕ → Belongs
sorted b t m l = pick (ltb b numbers) (border b t) (by_count m l)

-- by where a point lies to each number
abbrev pub sorted_by : (ℕ → Place) → Belongs
sorted_by place =
    let b = lowest (λ d. rests (place d)) numbers 0 in
    sorted b (rests_at (place b)) (sum_to numbers (λ d. count (winds (place d)))) (lowest (λ d. winds (place d)) numbers 0)

unfoldable pub belongs_to : Register → Point → Belongs
belongs_to g R = sorted_by (λ d. lies_to R (slot g d))

-- refusal 5
abbrev pub point_tests : ℤ → ℤ → List Test
point_tests a b = (5 if (beyond a || beyond b)) ∷ []

-- refusals 1, 2, 5 in this order
abbrev pub assign_tests : Bool → Register → ℤ → ℤ → List Test
assign_tests well_formed g a b = beginning well_formed g ++ point_tests a b

abbrev pub given : Verdict → Answer → Answer
given accept a = a
given (refuse n) a = Answers.refused n

-- the answer to report r at (a, b)
unfoldable pub assigned : Bool → Register → ℕ → ℤ → ℤ → Answer
assigned well_formed g r a b = given (verdict (assign_tests well_formed g a b)) (report r (belongs_to g (point a b)))
