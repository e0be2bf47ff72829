-- Lists of a register's lengths whose runs are all 0 hold an empty register. Assumes nothing.
use Prim.Native.Nat.{ℕ, ◌+◌}
use native.Mathlib.Decide.{dec_lt}
use native.Mathlib.Omega.{arith}
use mathlib.Core.Path.{◌≡◌, sym, ap, ◌∙◌}
use mathlib.Core.List.{List}
use lib.IntN.{ℤ}
use lib.ListN.{length, get_or}
use Rattle.ring.specs.declared.Point.{Point}
use Rattle.ring.specs.Grid.{some_beyond}
use Rattle.ring.specs.Columns.{points}
use Rattle.ring.proofs.Points.{length-points}
use Rattle.districts.specs.Counts.{list_to}
use Rattle.districts.specs.Register.{unused, numbers}
use Rattle.districts.specs.Lists.{outline_size, first_place, size, part, district, meaning}
use Rattle.districts.specs.WellFormed.{sized, total}
use Rattle.districts.proofs.Meaning.{list_at, list-past, list-long, list_same, unused-when}
use Rattle.districts.specs.Lent.{lent}
use Rattle.room.specs.Writing.{numbers_of}
use Rattle.room.proofs.Forms as Forms
use Rattle.room.proofs.Forms.{Sound}
use Rattle.history.specs.Histories.{empty}
use Rattle.history.specs.Turns.{Fresh}
use Rattle.districts.proofs.Sums.{sum-zero}

abbrev zeros : List ℕ
zeros = list_to 129 (λ k. 0)

zero-at : (k : ℕ) → get_or zeros k 0 ≡ 0
zero-at k = elim (dec_lt k 129) [
  | yes less ↦ list_at 129 (λ i. 0) 0 k less
  | no more ↦ list-past 129 (λ i. 0) 0 k (omega (arith, more))
]

none : total zeros ≡ 0
none = sum-zero (size zeros) 64 (λ d h. zero-at (65 + d))

facts : (outline store : List Point) → length outline ≡ 2048 → length store ≡ 2048 → Sound outline store zeros
unfolding numbers_of
facts outline store e f = record {
  outline-length = e;
  store_length = f;
  runs-length = list-long 129 (λ k. 0);
  outline-size = ap sized (zero-at 0);
  sizes = λ d h. ap sized (zero-at (65 + d));
  most = omega (arith, none);
  beside = λ h. none;
  inside = λ d h some. absurd (let f : ⊥ = omega (arith, some, zero-at (65 + d)) in f);
  apart = λ d k h i other some more. absurd (let f : ⊥ = omega (arith, some, zero-at (65 + d)) in f);
  outline-grid = ap (λ n. some_beyond (numbers_of (part outline 0 n))) (zero-at 0);
  store-grid = ap (λ n. some_beyond (numbers_of (part store 0 n))) none;
}

pub fresh-lists : (ox oy sx sy : List ℤ) → (length ox ≡ 2048) × (length oy ≡ 2048) → (length sx ≡ 2048) × (length sy ≡ 2048) → Fresh (lent ox oy sx sy (list_to 129 (λ k. 0)))
unfolding meaning empty
fresh-lists ox oy sx sy e f = (
  Forms.formed (lent ox oy sx sy zeros) (record { outline = e; store = f }) (facts (points ox oy) (points sx sy) (length-points ox oy (e.0 ∙ sym e.1) ∙ e.0) (length-points sx sy (f.0 ∙ sym f.1) ∙ f.0)),
  λ t. record {
    outline = unused-when (points ox oy) 0 (outline_size zeros) (zero-at 0) t;
    districts = list_same numbers (district (points sx sy) zeros) (λ d. unused) (λ d h. unused-when (points sx sy) (first_place zeros d) (size zeros d) (zero-at (65 + d))) t;
  },
)
