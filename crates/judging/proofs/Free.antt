-- The lowest number whose size is 0, as a search over the numbers finds it; and how many vertices a store can have at most. Assumes nothing.
use Prim.Native.Nat.{ℕ, zero, suc, ◌*◌, ◌≤◌, ◌<◌}
use native.Mathlib.Omega.{arith}
use mathlib.Core.Path.{◌≡◌, sym}
use mathlib.Core.List.{List}
use lib.IntN.{ℤ}
use borrow.Author.Tests.{eq-eqb, ne_eqb}
use Rattle.std.specs.Prelude.{Option, Some, None}
use Rattle.std.specs.Option.{MatchOption}
use Rattle.ring.proofs.Search.{lowest-first, lowest-none}
use Rattle.districts.specs.Counts.{sum_to}
use Rattle.districts.specs.Lists.{size}
use Rattle.districts.specs.WellFormed.{total}
use Rattle.districts.specs.Lent.{GoodRuns}
use Rattle.districts.proofs.Sums.{sum-most}
use Rattle.judging.specs.Judging.{lowest_free, Frees}

pub frees : (runs : List ℕ) (r : Option ℕ)
    → MatchOption r ((k : ℕ) → 0 ≤ k → k < 64 → size runs k ≡ 0 → ⊥) (λ d. (0 ≤ d) × (d < 64) × (size runs d ≡ 0) × ((k : ℕ) → 0 ≤ k → k < d → size runs k ≡ 0 → ⊥))
    → Frees r (lowest_free runs)
frees runs None f = lowest-none _ 64 0 (λ j g h. ne_eqb (size runs j) 0 (f j g h))
frees runs (Some d) f = (sym (lowest-first _ 64 d (λ j h. ne_eqb (size runs j) 0 (f.3 j (omega arith) h)) f.1 (eq-eqb (size runs d) 0 f.2)), f.1)

sum-alike : (n v : ℕ) → sum_to n (λ d. v) ≡ n * v
unfolding sum_to
sum-alike zero v = omega arith
sum-alike (suc n) v = omega (arith, sum-alike n v)

-- 64 sizes of 2,048 at most: the number fits, whether or not the store has that much room
pub few_vertices : (sx sy : List ℤ) (runs : List ℕ) → GoodRuns sx sy runs → total runs ≤ 131_072
few_vertices sx sy runs good = omega (arith, sum-most (size runs) (λ d. 2048) 64 good.most, sum-alike 64 2048)
