-- `fixes::rounding::divided`: from 2 ^ 64 on a dividend below 2 ^ 63 is less than half of the divisor. Assumes nothing.
use Prim.Native.Nat.{ℕ, ◌*◌, ◌%◌, ◌^◌, ◌≤◌, ◌<◌}
use native.Mathlib.Nat.{div-eq_of_lt, mod-eq_of_lt}
use native.Mathlib.Omega.{arith}
use mathlib.Core.Path.{◌≡◌, sym, ◌∙◌}
use lib.Pow.{pow_mono}
use borrow.Author.Tests.{lt-ltb}
use Rattle.ring.proofs.Pick.{pick_true}
use Rattle.fixes.specs.Millimetres.{rounded}
use Rattle.fixes.proofs.rounding.divided.Goals as goal

less-than-half : (n d : ℕ) → n < 2 ^ 63 → 2 ^ 64 ≤ d → rounded n d ≡ 0
less-than-half n d h g =
    let rest : n % d ≡ n = mod-eq_of_lt (omega arith) in
    pick_true (lt-ltb (2 * (n % d)) d (omega arith)) _ _ ∙ div-eq_of_lt (omega arith)

pub returns-then-s-ge-WIDTH : goal.returns-then-s-ge-WIDTH
returns-then-s-ge-WIDTH c = sym (less-than-half c.args.n _ c.requires (pow_mono c.if-s-ge-WIDTH.true))
