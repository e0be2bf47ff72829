-- A ring that was copied from the store as x, y, x, y, .. Assumes nothing.
use Prim.Native.Nat.{ℕ, ◌+◌, ◌≤◌}
use native.Mathlib.Omega.{arith}
use mathlib.Core.Path.{◌≡◌, sym, ap, ◌∙◌}
use mathlib.Core.List.{List}
use lib.IntN.{ℤ}
use lib.ListN.{length}
use Rattle.ring.specs.declared.Point.{Point}
use Rattle.ring.specs.Grid.{vertices}
use Rattle.ring.specs.Columns.{points}
use Rattle.ring.proofs.Points.{length-points}
use Rattle.districts.specs.Lists.{part}
use Rattle.districts.proofs.Lent.{part_length}
use Rattle.room.specs.Writing.{numbers_of}
use Rattle.room.proofs.Written.{numbers-length, vertices-numbers}

pub record Copied (P : List Point) (n : ℕ) (to : List ℤ) : Type 0 where
  pub long : length to ≡ n + n
  pub ring : vertices to ≡ P

pub copied : (sx sy : List ℤ) (f n : ℕ) (to : List ℤ) → length sx ≡ 2048 → length sy ≡ 2048 → f + n ≤ 2048 → to ≡ numbers_of (part (points sx sy) f n) → Copied (part (points sx sy) f n) n to
copied sx sy f n to x y h e =
    let many : length (part (points sx sy) f n) ≡ n = part_length (points sx sy) f n (omega (arith, length-points sx sy (x ∙ sym y))) in
    record { long = ap length e ∙ numbers-length (part (points sx sy) f n) ∙ (λ t. many t + many t); ring = ap vertices e ∙ vertices-numbers (part (points sx sy) f n) }
