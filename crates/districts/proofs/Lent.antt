-- What a well-formed register tells the calls. Assumes nothing.
use Prim.Native.Nat.{ℕ, ◌+◌, ◌-◌, ◌≤◌, ◌<◌}
use native.Mathlib.Omega.{arith}
use mathlib.Core.Path.{◌≡◌, refl, sym, ap, ◌∙◌}
use mathlib.Core.Bool.{Bool, true, false, not, not-not}
use mathlib.Core.List.{List}
use mathlib.Core.Logic.{◌⊎◌, inl, inr}
use lib.Dec.{eqb}
use lib.IntN.{ℤ}
use lib.ListN.{length, take, drop, length-take, length-drop}
use Rattle.ring.specs.declared.Point.{Point}
use Rattle.ring.specs.Choices.{pick}
use Rattle.ring.specs.Columns.{points}
use Rattle.ring.proofs.Points.{points-take, points-drop}
use Rattle.districts.specs.Register.{unused, ring, in_use}
use Rattle.districts.specs.Lists.{outline_size, first_place, size, part, held, meaning}
use Rattle.districts.specs.WellFormed.{total, counted}
use Rattle.districts.proofs.Sound.{allowed-size, size-most, district-sized, total-most, right-counts, store-lengths, runs-length, run_inside, store-on-grid}
use Rattle.districts.proofs.Meaning.{part-on-grid}
use Rattle.districts.specs.Lent.{Lists, formed, GoodRuns}

module _ (l : Lists) (good : formed l ≡ true) where
  abbrev runs : List ℕ
  runs = l.runs

  counts : counted runs ≡ true
  counts = right-counts l good

  pub good-runs : GoodRuns l.sx l.sy runs
  good-runs = record {
    runs-length = runs-length l good;
    x-length = (store-lengths l good).0;
    y-length = (store-lengths l good).1;
    fits = fits;
    least = least;
    most = λ d h. size-most (size runs d) (district-sized runs counts d h);
    grid-x = λ d h k. part-on-grid l.sx (first_place runs d) (size runs d) (total runs) (run_inside l good d h k) (store-on-grid l good).0;
    grid-y = λ d h k. part-on-grid l.sy (first_place runs d) (size runs d) (total runs) (run_inside l good d h k) (store-on-grid l good).1;
  }
    where
      fits : (d : ℕ) → d < 64 → 0 < size runs d → first_place runs d + size runs d ≤ 2048
      fits d h k = omega (arith, run_inside l good d h k, total-most runs counts)

      least : (d : ℕ) → d < 64 → 0 < size runs d → 3 ≤ size runs d
      least d h k = say (allowed-size (size runs d) (district-sized runs counts d h))
        where
          say : (size runs d ≡ 0) ⊎ ((3 ≤ size runs d) × (size runs d ≤ 2048)) → 3 ≤ size runs d
          say (inl e) = absurd (omega arith)
          say (inr e) = e.0

-- a ring is held exactly if it has vertices
pub held-in-use : (P : List Point) (place n : ℕ) → in_use (held P place n) ≡ not (eqb n 0)
held-in-use P place n = say (eqb n 0)
  where
    say : (b : Bool) → in_use (pick b unused (ring (part P place n))) ≡ not b
    say true = refl
    say false = refl

pub outline-in-use : (outline store : List Point) (runs : List ℕ) → in_use (meaning outline store runs).outline ≡ not (eqb (outline_size runs) 0)
unfolding meaning
outline-in-use outline store runs = held-in-use outline 0 (outline_size runs)

-- refusal 2 is told by the outline's size
pub no-outline : (outline store : List Point) (runs : List ℕ) → not (in_use (meaning outline store runs).outline) ≡ eqb (outline_size runs) 0
no-outline outline store runs = ap not (outline-in-use outline store runs) ∙ not-not (eqb (outline_size runs) 0)

-- ---- the run of a district: the parts of the store's columns that are handed on

pub part_length : {A : Type 0} (l : List A) (f n : ℕ) → f + n ≤ length l → length (part l f n) ≡ n
part_length l f n h = simp (length-take, length-drop) (omega arith)

-- the part as the code cuts it
pub cut : {A : Type 0} (l : List A) (f n : ℕ) → take (f + n - f) (drop f l) ≡ part l f n
cut l f n = let e : f + n - f ≡ n = omega arith in λ i. take (e i) (drop f l)

-- the points of the parts are the part of the points
pub points-part : (xs ys : List ℤ) (f n : ℕ) → points (part xs f n) (part ys f n) ≡ part (points xs ys) f n
points-part xs ys f n = sym (ap (take n) (points-drop f xs ys) ∙ points-take n (drop f xs) (drop f ys))

pub cut-points : (xs ys : List ℤ) (f n : ℕ) → points (take (f + n - f) (drop f xs)) (take (f + n - f) (drop f ys)) ≡ part (points xs ys) f n
cut-points xs ys f n = (λ i. points (cut xs f n i) (cut ys f n i)) ∙ points-part xs ys f n
