-- The answer to a report by its position, from where the position is. Assumes nothing.
use Prim.Native.Nat.{ℕ}
use mathlib.Core.Path.{◌≡◌, refl, sym, ap, ◌∙◌}
use mathlib.Core.Bool.{Bool, true, false, not, ◌||◌}
use mathlib.Core.List.{List, [], ◌∷◌}
use lib.IntN.{ℤ}
use Rattle.std.specs.Prelude.{Ok, Err}
use Rattle.ring.specs.declared.Point.{Point}
use Rattle.ring.specs.Grid.{point, beyond}
use Rattle.ring.specs.Choices.{pick}
use Rattle.districts.specs.Register.{Register, in_use}
use Rattle.districts.specs.Lent.{beginning}
use Rattle.districts.specs.Answers.{report, refused}
use Rattle.refusals.specs.declared.Refusal.{Refusal}
use Rattle.refusals.specs.declared.Refusal.TheVariants as Why
use Rattle.refusals.specs.Numbers.{number_of}
use Rattle.refusals.specs.Verdicts.{Test, ◌if◌, accept, refuse, verdict}
use Rattle.refusals.proofs.Verdicts.{stops-early, passes-first}
use Rattle.register.specs.Sorting.{belongs_to, point_tests, given, assigned}
use Rattle.fixes.specs.declared.Fix as Receivers
use Rattle.fixes.specs.Millimetres.{placed}
use Rattle.register.specs.declared.Position.{Position}
use Rattle.register.specs.declared.Position.TheVariants.{Grid, Fix, Missing}
use Rattle.register.specs.Placing.{is_missing, not_finite, east_of, north_of, position_tests, place_tests, assigned_at}
use Rattle.register.specs.Spots.{Spots}
use Rattle.register.proofs.Given.{answer-given}

-- behind refusals 1 and 2, what meets the same refusal meets the same refusal
behind : (b c : Bool) (ts us : List Test) → verdict ts ≡ verdict us → verdict ((1 if b) ∷ (2 if c) ∷ ts) ≡ verdict ((1 if b) ∷ (2 if c) ∷ us)
unfolding verdict
behind true c ts us e = refl
behind false true ts us e = refl
behind false false ts us e = e

-- ---- where a position is

-- a position's own refusals
abbrev own : Bool → Bool → Bool → List Test
own missing infinite far = (19 if missing) ∷ (18 if infinite) ∷ (5 if far) ∷ []

first-19 : (b c : Bool) → verdict (own true b c) ≡ refuse 19
unfolding verdict
first-19 b c = refl

first-18 : (c : Bool) → verdict (own false true c) ≡ refuse 18
unfolding verdict
first-18 c = refl

first-5 : verdict (own false false true) ≡ refuse 5
unfolding verdict
first-5 = refl

only-5 : (c : Bool) → verdict (own false false c) ≡ verdict ((5 if c) ∷ [])
unfolding verdict
only-5 c = refl

there : (p : Position) → is_missing p ≡ false → not_finite p ≡ false → Spots (Ok (point (east_of p) (north_of p))) p
there p here fine = let far = beyond (east_of p) || beyond (north_of p) in (refl, (λ i. verdict (own (here i) (fine i) far)) ∙ only-5 far)

pub grid-spot : (x y : ℤ) → Spots (Ok (point x y)) (Grid x y)
grid-spot x y = there (Grid x y) refl refl

pub missing-spot : Spots (Err Why.Missing) Missing
missing-spot = first-19 false _

fix-by : (p : Position) (b c : Bool) → is_missing p ≡ false → not_finite p ≡ b → (beyond (east_of p) || beyond (north_of p)) ≡ c
    → Spots (pick b (Err Why.NotFinite) (pick c (Err Why.BeyondGrid) (Ok (point (east_of p) (north_of p))))) p
fix-by p true c here e f = (λ i. verdict (own (here i) (e i) (beyond (east_of p) || beyond (north_of p)))) ∙ first-18 _
fix-by p false true here e f = (λ i. verdict (own (here i) (e i) (f i))) ∙ first-5
fix-by p false false here e f = there p here e

pub fix-spot : (f : Receivers.Fix) → Spots (placed f.easting f.northing) (Fix f)
fix-spot f = fix-by (Fix f) _ _ refl refl refl

-- ---- the answer

module _ (good : Bool) (g : Register) (n : ℕ) (p : Position) where
  spot-at : (r : Point) → Spots (Ok r) p → assigned good g n r.x r.y ≡ assigned_at good g n p
  unfolding assigned assigned_at
  spot-at r e =
      (λ i. given (behind (not good) (not (in_use g.outline)) (point_tests r.x r.y) (position_tests p) (sym e.1) i) (report n (belongs_to g (point r.x r.y))))
      ∙ ap (λ (q : Point). given (verdict (place_tests good g p)) (report n (belongs_to g (point q.x q.y)))) e.0

  -- where refusals 1 and 2 are passed
  pub spot-taken : (r : Point) → Spots (Ok r) p → verdict (beginning good g) ≡ accept → given (verdict (point_tests r.x r.y)) (report n (belongs_to g r)) ≡ assigned_at good g n p
  spot-taken r e begun = answer-given good g n r.x r.y begun ∙ spot-at r e

  pub spot-refused : (why : Refusal) → Spots (Err why) p → verdict (beginning good g) ≡ accept → refused (number_of why) ≡ assigned_at good g n p
  unfolding assigned_at
  spot-refused why e begun = sym (ap (λ v. given v (report n (belongs_to g (point (east_of p) (north_of p))))) (passes-first (beginning good g) (position_tests p) begun ∙ e))

  -- and where one of them is met
  pub begun-first : (m : ℕ) → verdict (beginning good g) ≡ refuse m → refused m ≡ assigned_at good g n p
  unfolding assigned_at
  begun-first m e = sym (ap (λ v. given v (report n (belongs_to g (point (east_of p) (north_of p))))) (stops-early m (beginning good g) (position_tests p) e))

  -- a position that is there and finite is answered as its millimetres are
  pub as-on-grid : is_missing p ≡ false → not_finite p ≡ false → assigned_at good g n p ≡ assigned good g n (east_of p) (north_of p)
  as-on-grid here fine = sym (spot-at (point (east_of p) (north_of p)) (there p here fine))

-- the old promise: a report with a grid position is answered as it ever was
pub grid-as-before : (good : Bool) (g : Register) (n : ℕ) (x y : ℤ) → assigned_at good g n (Grid x y) ≡ assigned good g n x y
grid-as-before good g n x y = as-on-grid good g n (Grid x y) refl refl
