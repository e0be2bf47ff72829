-- A coordinate moved down by 1,147,483,648 round the end of 32 bits: it does not lie among the grid's then exactly if it was beyond the grid. Assumes nothing.
use Prim.Native.Nat.{ℕ, suc, ◌+◌, ◌-◌, ◌≤◌, ◌<◌}
use native.Mathlib.Decide.{dec_lt}
use native.Mathlib.Omega.{arith}
use mathlib.Core.Path.{◌≡◌, sym, ap, subst, ◌∙◌}
use mathlib.Core.Bool.{true, false, cond, ◌||◌, true≢false}
use lib.Dec.{ltb}
use lib.IntN.{ℤ, pos, negsuc, sub_ℕ, ◌+ℤ◌, +ℤ_assoc}
use lib.Signed.{lt_z}
use mir.Syntax.{w32}
use mir.Val.{SFits}
use borrow.Author.Tests.{lt-ltb, le-ltb, ltb-true, ltb-false}
use Rattle.ring.specs.Grid.{beyond}

over : (a b : ℕ) → b ≤ a → sub_ℕ a b ≡ pos (a - b)
over a b h = ap (λ t. cond t (negsuc (b - suc a)) (pos (a - b))) (le-ltb a b h)

under : (a b : ℕ) → a < b → sub_ℕ a b ≡ negsuc (b - suc a)
under a b h = ap (λ t. cond t (negsuc (b - suc a)) (pos (a - b))) (lt-ltb a b h)

-- ---- below the grid

pub record Behind (x : ℤ) : Type 0 where
  pub first : SFits w32 (x +ℤ pos 2_147_483_647)
  pub second : SFits w32 (x +ℤ pos 2_147_483_647 +ℤ pos 1_000_000_001)
  pub told : lt_z (negsuc 147_483_647) (x +ℤ pos 2_147_483_647 +ℤ pos 1_000_000_001) ≡ beyond x

pub behind : (x : ℤ) → SFits w32 x → lt_z x (negsuc 999_999_999) ≡ true → Behind x
behind (pos n) f h = absurd (true≢false (sym h))
behind (negsuc n) f h = record {
  first = elim (dec_lt 2_147_483_647 (suc n)) [
    | yes s ↦ subst (SFits w32) (sym (under 2_147_483_647 (suc n) s)) (record { sfits = omega (arith, low) })
    | no s ↦ subst (SFits w32) (sym (over 2_147_483_647 (suc n) (omega arith))) (record { sfits = omega arith })
  ];
  second = subst (SFits w32) (sym at) (record { sfits = omega (arith, low) });
  told = ap (lt_z (negsuc 147_483_647)) at ∙ sym (ap (λ b. b || false) h);
}
  where
    low : 999_999_999 < n
    low = ltb-true 999_999_999 n h

    at : negsuc n +ℤ pos 2_147_483_647 +ℤ pos 1_000_000_001 ≡ pos (3_147_483_648 - suc n)
    at = +ℤ_assoc (negsuc n) (pos 2_147_483_647) (pos 1_000_000_001) ∙ over 3_147_483_648 (suc n) (omega (arith, f.sfits))

-- ---- on the grid or above it

pub record Down (x : ℤ) : Type 0 where
  pub fits : SFits w32 (x +ℤ negsuc 1_147_483_647)
  pub told : lt_z (negsuc 147_483_647) (x +ℤ negsuc 1_147_483_647) ≡ beyond x

pub down : (x : ℤ) → SFits w32 x → lt_z x (negsuc 999_999_999) ≡ false → Down x
down (pos n) f h = elim (dec_lt n 1_147_483_648) [
  | yes s ↦
      let at = under n 1_147_483_648 s in
      record { fits = subst (SFits w32) (sym at) (record { sfits = omega arith }); told = ap (lt_z (negsuc 147_483_647)) at ∙ same }
  | no s ↦
      let at = over n 1_147_483_648 (omega arith) in
      record { fits = subst (SFits w32) (sym at) (record { sfits = omega (arith, f.sfits) }); told = ap (lt_z (negsuc 147_483_647)) at ∙ sym (lt-ltb 1_000_000_000 n (omega arith)) }
]
  where
    same : ltb (1_147_483_648 - suc n) 147_483_647 ≡ ltb 1_000_000_000 n
    same = elim (dec_lt 1_000_000_000 n) [
      | yes s ↦ lt-ltb (1_147_483_648 - suc n) 147_483_647 (omega arith) ∙ sym (lt-ltb 1_000_000_000 n s)
      | no s ↦ le-ltb (1_147_483_648 - suc n) 147_483_647 (omega arith) ∙ sym (le-ltb 1_000_000_000 n (omega arith))
    ]
down (negsuc n) f h =
    let low : n ≤ 999_999_999 = ltb-false 999_999_999 n h in
    record { fits = record { sfits = omega arith }; told = le-ltb (suc (n + 1_147_483_647)) 147_483_647 (omega arith) ∙ sym (ap (λ b. b || false) h) }
