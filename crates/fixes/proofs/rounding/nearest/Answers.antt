-- `fixes::rounding::nearest` gives the size of the bits' fields its sign. Assumes nothing.
use Prim.Native.Nat.{ℕ, ◌^◌, ◌≤◌}
use native.Mathlib.Omega.{arith}
use mathlib.Core.Path.{◌≡◌, sym, ap, ◌∙◌, subst}
use mathlib.Core.Bool.{Bool, true, false}
use lib.Dec.{T}
use lib.IntN.{pos, neg_ℤ, nat_abs, ◌-ℤ◌, +ℤ_idl}
use lib.Ieee.{Float, to_bits, binary64, fits}
use mir.Syntax.{w32}
use mir.Val.{to_z}
use mir.Facts.{to_z_pos, to_z-of_z}
use borrow.Author.Rules.{rules}
use borrow.Author.Tests.{lt-leb, le-leb}
use Rattle.exact.proofs.Bounds.{signed}
use Rattle.fixes.specs.Nearest.{finite, with_sign}
use Rattle.fixes.specs.Millimetres.{size_of, StandsFor}
use Rattle.fixes.proofs.Doubles.{finite-not-nan, bound, negative, field, fraction, size-within, stands}
use Rattle.fixes.proofs.rounding.nearest.Goals as goal

-- n is the size of x in millimetres
module _ (x : Float) (n : ℕ) (e : n ≡ size_of (field x) (fraction x)) where
  small : n ≤ bound
  small = omega (arith, size-within x)

  whole : to_z w32 n ≡ pos n
  whole = to_z_pos w32 (omega (arith, small))

  signed-size : T (fits binary64 x) → finite x ≡ true → (s : Bool) → negative x ≡ s → StandsFor (with_sign s n) x
  signed-size h f s g = subst (λ t. StandsFor (with_sign t n) x) g (subst (λ m. StandsFor (with_sign (negative x) m) x) (sym e) (stands x h f))

pub float_to_bits-bits : goal.float_to_bits-bits
float_to_bits-bits c = finite-not-nan c.args.x c.requires

pub overflow_cast-n : goal.overflow_cast-n
overflow_cast-n c = omega (arith, small c.args.x _ c.size-n.ensures)

pub returns-then-bits-lt-SIGN : goal.returns-then-bits-lt-SIGN
returns-then-bits-lt-SIGN c =
    let x = c.args.x in
    let positive = lt-leb (2 ^ 63) (to_bits binary64 x) (omega (arith, c.if-bits-lt-SIGN.true)) in
    rw (whole x _ c.size-n.ensures) (signed-size x _ c.size-n.ensures (subst T (sym c.well_formed.0.1) tt) c.requires false positive)

pub overflow_sub-result : goal.overflow_sub-result
overflow_sub-result c =
    let within : nat_abs (pos c.size-n.result) ≤ bound = small c.args.x _ c.size-n.ensures in
    rw (whole c.args.x _ c.size-n.ensures) (search (rules, signed))

pub returns : goal.returns
returns c =
    let x = c.args.x in
    let below = le-leb (2 ^ 63) (to_bits binary64 x) (omega (arith, c.if-bits-lt-SIGN.false)) in
    let turned = to_z-of_z (overflow_sub-result c) ∙ ap (λ z. pos 0 -ℤ z) (whole x _ c.size-n.ensures) ∙ +ℤ_idl (neg_ℤ (pos c.size-n.result)) in
    rw turned (signed-size x _ c.size-n.ensures (subst T (sym c.well_formed.0.1) tt) c.requires true below)
