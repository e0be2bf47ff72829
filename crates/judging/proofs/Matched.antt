-- Whether two rings match, asked of one point after the other. Assumes nothing.
use Prim.Native.Nat.{ℕ, suc, ◌+◌, ◌-◌, ◌≤◌, ◌<◌}
use native.Mathlib.Nat.{zero-add}
use native.Mathlib.Omega.{arith}
use mathlib.Core.Path.{◌≡◌, refl, sym, ap, ◌∙◌}
use mathlib.Core.Bool.{Bool, true, false, true≢false}
use mathlib.Core.List.{List}
use lib.IntN.{ℤ}
use lib.ListN.{length, get_or, length-append}
use Rattle.std.specs.Bool.{MatchBool}
use Rattle.std.specs.List.{AllWithin, HoldsAt, range_with_len}
use Rattle.std.proofs.lemmas.List.FromFn.{get_or-range_with_len, length-range_with_len}
use Rattle.ring.specs.Columns.{points, few-points}
use Rattle.ring.specs.declared.Point.{Point}
use Rattle.ring.specs.Rings.{at}
use Rattle.ring.specs.Segment.{same}
use Rattle.districts.proofs.Tests.{refuted}
use Rattle.districts.proofs.Counting.{all_pass, all-each}
use Rattle.room.specs.Runs.{run}
use Rattle.room.proofs.Written.{run_length}
use Rattle.judging.specs.Merging.{matches, merged}

-- a ring in columns has few vertices, in a form that a tactic can cite
pub few_points : (xs ys : List ℤ) → length xs ≤ 2048 → length (points xs ys) ≤ 2048
few_points = few-points

-- ---- all points of the border

abbrev pub meets_at : List Point → ℕ → List Point → ℕ → ℕ → Bool
meets_at P a Q b t = same (at P (a + t)) (at Q (b + length Q - t))

-- the points 0 to k, as `all` asks of them
abbrev upto : ℕ → List ℕ
upto k = range_with_len 0 (k + 1)

here : (k t : ℕ) → t < k + 1 → get_or (upto k) t 0 ≡ t
here k t h = get_or-range_with_len 0 (k + 1) t 0 h ∙ zero-add t

pub match-said : (P : List Point) (a : ℕ) (Q : List Point) (b k : ℕ) (r : Bool)
    → MatchBool r (AllWithin (λ t. meets_at P a Q b t ≡ true) (upto k) 0 (length (upto k))) ((j : ℕ) × (j < length (upto k)) × HoldsAt (λ t. meets_at P a Q b t ≡ false) (upto k) j)
    → r ≡ matches P a Q b k
unfolding matches
match-said P a Q b k true f = sym (all_pass (meets_at P a Q b) (suc k) (λ t h.
    ap (meets_at P a Q b) (sym (here k t (omega arith))) ∙ f t 0 (omega arith) (omega (arith, length-range_with_len 0 (k + 1)))))
match-said P a Q b k false f = sym (refuted (matches P a Q b k) (λ all.
    let h : f.0 < k + 1 = omega (arith, length-range_with_len 0 (k + 1), f.1) in
    true≢false (sym (all-each (meets_at P a Q b) (suc k) all f.0 (omega arith)) ∙ ap (meets_at P a Q b) (sym (here k f.0 h)) ∙ f.2 0)))

-- how many vertices the result has, of rings of n and m
pub merged-length : (P Q : List Point) (a b n m k : ℕ) → length P ≡ n → length Q ≡ m → k < n → k < m → length (merged P a Q b k) ≡ n - k + (m - k)
merged-length P Q a b n m k e f h i =
    length-append (run P (a + k) (suc (length P - k))) (run Q (suc b) (length Q - suc k))
    ∙ (λ t. run_length P (a + k) (suc (length P - k)) t + run_length Q (suc b) (length Q - suc k) t)
    ∙ omega (arith, e, f)

-- the same, in a form that a tactic can cite
pub merged_long : (P Q : List Point) (a b k : ℕ) → k < length P → k < length Q → length (merged P a Q b k) ≡ length P - k + (length Q - k)
merged_long P Q a b k = merged-length P Q a b (length P) (length Q) k refl refl
