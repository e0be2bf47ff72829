-- The answer to a report, from the verdict; and sorting by the runs is sorting by the register that they mean. Assumes nothing.
use Prim.Native.Nat.{ℕ}
use mathlib.Core.Path.{◌≡◌, refl, sym, ap, ◌∙◌}
use mathlib.Core.Bool.{Bool, true, false, ◌||◌}
use mathlib.Core.List.{List, []}
use lib.Dec.{eqb}
use lib.IntN.{ℤ}
use lib.ListN.{length}
use Rattle.refusals.specs.Verdicts.{accept, refuse, verdict}
use Rattle.refusals.proofs.Verdicts.{stops_at, passes, passed-all, accepted, stops-early, passes-first}
use Rattle.ring.specs.declared.Point.{Point}
use Rattle.ring.specs.Columns.{points}
use Rattle.ring.specs.Grid.{point, beyond}
use Rattle.ring.specs.Walk.{OnGrid}
use Rattle.ring.proofs.Pick.{neither_left, neither_right}
use Rattle.ring.proofs.OnGrid.{point-on-grid}
use Rattle.districts.specs.Register.{Register}
use Rattle.districts.specs.Lists.{outline_size, district, meaning}
use Rattle.districts.specs.Lent.{Lists, outline_of, store_of, formed, means, beginning}
use Rattle.districts.specs.Held.{StoreOf, district_of}
use Rattle.districts.specs.declared.store.Store.{Store}
use Rattle.districts.specs.Answers as Answers
use Rattle.districts.specs.Answers.{Answer, report}
use Rattle.districts.proofs.Sound.{runs-length}
use Rattle.districts.proofs.Lent.{no-outline}
use Rattle.districts.proofs.Meaning.{slot_is}
use Rattle.register.specs.Sorting.{lies_to, sorted_by, belongs_to, point_tests, given, assigned}

module _ (good : Bool) (g : Register) (r : ℕ) (a b : ℤ) where
  pub answer-refused : (n : ℕ) → verdict (beginning good g) ≡ refuse n → Answers.refused n ≡ assigned good g r a b
  unfolding assigned
  answer-refused n e = sym (ap (λ v. given v (report r (belongs_to g (point a b)))) (stops-early n (beginning good g) (point_tests a b) e))

  pub answer-given : verdict (beginning good g) ≡ accept → given (verdict (point_tests a b)) (report r (belongs_to g (point a b))) ≡ assigned good g r a b
  unfolding assigned
  answer-given e = sym (ap (λ v. given v (report r (belongs_to g (point a b)))) (passes-first (beginning good g) (point_tests a b) e))

-- in a well-formed register only an outline may be missing
module _ (outline store : List Point) (runs : List ℕ) where
  pub none-begun : eqb (outline_size runs) 0 ≡ true → verdict (beginning true (meaning outline store runs)) ≡ refuse 2
  none-begun e = passes 1 _ _ refl ∙ stops_at 2 _ [] (no-outline outline store runs ∙ e)

  pub some-begun : eqb (outline_size runs) 0 ≡ false → verdict (beginning true (meaning outline store runs)) ≡ accept
  some-begun e = passes 1 _ _ refl ∙ passes 2 _ [] (no-outline outline store runs ∙ e) ∙ passed-all

-- a point of the grid is answered
module _ (a b : ℤ) (x : Answer) where
  pub point-taken : (beyond a || beyond b) ≡ false → x ≡ given (verdict (point_tests a b)) x
  point-taken e = sym (ap (λ v. given v x) (passes 5 _ [] e ∙ passed-all))

-- a point that is not refused is on the grid
pub taken-grid : (r : Point) → accept ≡ verdict (point_tests r.x r.y) → OnGrid r
taken-grid r e = let near = (accepted 5 _ [] (sym e)).0 in point-on-grid r.x r.y (neither_left (beyond r.x) _ near) (neither_right (beyond r.x) _ near)

-- sorting by the runs is sorting by the register that they mean
pub sorted-by : (outline store : List Point) (runs : List ℕ) → length runs ≡ 129 → (R : Point) → sorted_by (λ d. lies_to R (district store runs d)) ≡ belongs_to (meaning outline store runs) R
unfolding belongs_to
sorted-by outline store runs long R = λ i. sorted_by (λ d. lies_to R (sym (slot_is outline store runs long d) i))

pub sorted-is : (l : Lists) → formed l ≡ true → (R : Point) → sorted_by (λ d. lies_to R (district (store_of l) l.runs d)) ≡ belongs_to (means l) R
sorted-is l good R = sorted-by (outline_of l) (store_of l) l.runs (runs-length l good) R

-- in the store of well-formed lists
pub store-sorted : (l : Lists) (s : Store) → formed l ≡ true → StoreOf l s → (R : Point) → sorted_by (λ d. lies_to R (district_of s d)) ≡ belongs_to (means l) R
store-sorted l s good e R = (λ i. sorted_by (λ d. lies_to R (district (points (e.0 i) (e.1 i)) (e.2 i) d))) ∙ sorted-is l good R
