-- How many bytes a whole record has: at least its head, no more than there are, and no more than the longest record. Assumes nothing.
use Prim.Native.Nat.{ℕ, ◌+◌, ◌-◌, ◌*◌, ◌≤◌}
use native.Mathlib.Omega.{arith}
use mathlib.Core.Path.{◌≡◌, refl, subst}
use mathlib.Core.Bool.{Bool, true, false, not, ◌&&◌}
use mathlib.Core.List.{List}
use lib.Dec.{ltb, eqb}
use lib.IntN.{ℤ}
use lib.ListN.{length}
use borrow.Author.Tests.{ltb-false}
use Rattle.ring.specs.Choices.{pick}
use Rattle.history.specs.Histories.{Call, founding}
use Rattle.records.specs.Bytes.{field}
use Rattle.records.specs.Layout.{Front, whole, more, broken, first_mark, second_mark, from, up_to, pairs_front, position_front, by_kind, front}
use Rattle.records.proofs.Fronts.{splits}

-- a split of 2,048 points is the longest record
pub record Size (bytes : List ℕ) (n : ℕ) : Type 0 where
  pub least : 3 ≤ n
  pub there : n ≤ length bytes
  pub most : n ≤ 16394

abbrev Sized : List ℕ → Front → Type 0
Sized bytes (whole c n) = Size bytes n
Sized bytes more = Unit
Sized bytes broken = Unit

-- either side of a choice, with what the test told
either : (P : Front → Type 0) (b : Bool) (f g : Front) → (b ≡ true → P f) → (b ≡ false → P g) → P (pick b f g)
either P true f g h k = h refl
either P false f g h k = k refl

sized-from : (bytes : List ℕ) (n : ℕ) (f : Front) → (n ≤ length bytes → Sized bytes f) → Sized bytes (from bytes n f)
sized-from bytes n f h = either (Sized bytes) (ltb (length bytes) n) more f (λ e. tt) (λ e. h (ltb-false (length bytes) n e))

sized-up-to : (bytes : List ℕ) (n : ℕ) (c : Call) → 3 ≤ n → n ≤ 16394 → Sized bytes (up_to bytes n c)
sized-up-to bytes n c least most = sized-from bytes n (whole c n) (λ there. record { least = least; there = there; most = most })

sized-announced : (bytes : List ℕ) (n : ℕ) (f : Front) → (n ≤ 2048 → Sized bytes f) → Sized bytes (pick (ltb 2048 n) broken f)
sized-announced bytes n f h = either (Sized bytes) (ltb 2048 n) broken f (λ e. tt) (λ e. h (ltb-false 2048 n e))

sized-pairs : (bytes : List ℕ) (at : ℕ) (call : List ℤ → Call) → 3 ≤ at → at ≤ 10 → Sized bytes (pairs_front bytes at call)
sized-pairs bytes at call least most =
    sized-from bytes at _ (λ h. sized-announced bytes (field bytes (at - 2) 2) _ (λ few. sized-up-to bytes (at + 8 * field bytes (at - 2) 2) _ (omega (arith, least)) (omega (arith, most, few))))

sized-position : (bytes : List ℕ) → Sized bytes (position_front bytes)
sized-position bytes =
    let what = field bytes 7 1 in
    sized-from bytes 8 _ (λ h.
    either (Sized bytes) (eqb what 0) _ _ (λ e. sized-up-to bytes 8 _ (omega arith) (omega arith)) (λ e.
    either (Sized bytes) (eqb what 1) _ _ (λ e. sized-up-to bytes 16 _ (omega arith) (omega arith)) (λ e.
    either (Sized bytes) (eqb what 2) _ _ (λ e. sized-up-to bytes 24 _ (omega arith) (omega arith)) (λ e. tt))))

sized-kind : (bytes : List ℕ) (kind : ℕ) → Sized bytes (by_kind kind bytes)
sized-kind bytes kind =
    either (Sized bytes) (eqb kind 1) _ _ (λ e. sized-pairs bytes 5 founding (omega arith) (omega arith)) (λ e.
    either (Sized bytes) (eqb kind 2) _ _ (λ e. sized-pairs bytes 10 (splits bytes) (omega arith) (omega arith)) (λ e.
    either (Sized bytes) (eqb kind 3) _ _ (λ e. sized-up-to bytes 11 _ (omega arith) (omega arith)) (λ e.
    either (Sized bytes) (eqb kind 4) _ _ (λ e. sized-up-to bytes 15 _ (omega arith) (omega arith)) (λ e.
    either (Sized bytes) (eqb kind 5) _ _ (λ e. sized-position bytes) (λ e. tt)))))

sized-front : (bytes : List ℕ) → Sized bytes (front bytes)
unfolding front
sized-front bytes =
    let unmarked = not (eqb (field bytes 0 1) first_mark && eqb (field bytes 1 1) second_mark) in
    let kinded = by_kind (field bytes 2 1) bytes in
    sized-from bytes 3 (pick unmarked broken kinded) (λ h. either (Sized bytes) unmarked broken kinded (λ e. tt) (λ e. sized-kind bytes (field bytes 2 1)))

pub whole-size : (bytes : List ℕ) (c : Call) (n : ℕ) → front bytes ≡ whole c n → Size bytes n
whole-size bytes c n e = subst (Sized bytes) e (sized-front bytes)
