-- Fields as the code puts them together, and signed numbers one after the other. Assumes nothing.
use Prim.Native.Nat.{ℕ, zero, suc, ◌+◌, ◌*◌, ◌-◌, ◌^◌, ◌≤◌, ◌<◌}
use native.Mathlib.Nat.{zero-add, suc-add, pow-succ'}
use native.Mathlib.Numerals.{add-one}
use native.Mathlib.Omega.{arith}
use mathlib.Core.Path.{◌≡◌, refl, sym, ap, ◌∙◌}
use mathlib.Core.Bool.{Bool, true, false}
use mathlib.Core.List.{List, [], ◌∷◌, ◌++◌}
use lib.IntN.{ℤ, pos, negsuc}
use lib.ListN.{length, get_or, take, drop, set, length-drop}
use lib.Seq.{drop-cons, paste, paste-suc, take-length}
use lib.Dec.{ltb}
use mir.Syntax.{w32}
use mir.Val.{to_z, sel}
use Rattle.std.specs.Int.{byte_worth, sum_through}
use Rattle.std.proofs.lemmas.List.{length-take-le, take-take}
use Rattle.ring.specs.Choices.{pick}
use Rattle.districts.specs.Lent.{written}
use Rattle.records.specs.Bytes.{little_endian, field, signed, signed_fields}

-- ---- unsigned

pub one_byte : (bytes : List ℕ) (at : ℕ) → at < length bytes → get_or bytes at 0 ≡ field bytes at 1
unfolding little_endian
one_byte bytes at h = let e = ap (λ l. little_endian (take 1 l)) (drop-cons bytes at 0 h) in omega (arith, e)

-- a number of w + v bytes is one of the first w and one of the v behind them
in_two : (w v : ℕ) (l : List ℕ) → w ≤ length l → little_endian (take (w + v) l) ≡ little_endian (take w l) + 256 ^ w * little_endian (take v (drop w l))
unfolding little_endian
in_two zero v l h = let e = ap (λ n. little_endian (take n l)) (zero-add v) in omega (arith, e)
in_two (suc w) v [] h = absurd (let f : ⊥ = omega arith in f)
in_two (suc w) v (b ∷ l) h =
    let whole = ap (λ n. little_endian (take n (b ∷ l))) (suc-add w v) in
    let behind = in_two w v l (omega arith) in
    let weight = ap (λ p. p * little_endian (take v (drop w l))) (pow-succ' 256 w) in
    omega (arith, whole, behind, weight)

-- a sum of bytes by their places, as the library puts a number together
through : (k : ℕ) (l : List ℕ) → k < length l → sum_through (λ i. byte_worth i (get_or l i 0)) k ≡ little_endian (take (suc k) l)
through zero l h = one_byte l 0 h
through (suc k) l h =
    let front = through k l (omega arith) in
    let last = ap (λ b. b * 256 ^ suc k) (one_byte l (suc k) h) in
    let all = in_two (suc k) 1 l (omega arith) in
    let long = ap (λ n. little_endian (take n l)) (add-one (suc k)) in
    omega (arith, front, last, all, long)

pub assembled : (bytes xs : List ℕ) (at k : ℕ) → at + suc k ≤ length bytes → xs ≡ take (suc k) (drop at bytes) → sum_through (λ i. byte_worth i (get_or xs i 0)) k ≡ field bytes at (suc k)
assembled bytes xs at k h e =
    let there : k < length (drop at bytes) = omega (arith, h, length-drop at bytes) in
    let long = length-take-le (suc k) (drop at bytes) there in
    through k xs (omega (arith, ap length e, long)) ∙ ap (λ l. little_endian (take (suc k) l)) e ∙ ap little_endian (take-take (suc k) (suc k) (drop at bytes) (omega arith))

-- ---- signed

chosen : (b : Bool) (x y : ℤ) → sel b x y ≡ pick b x y
chosen true x y = refl
chosen false x y = refl

pub signed-is : (n : ℕ) → to_z w32 n ≡ signed n
signed-is n = chosen (ltb n 2147483648) (pos n) (negsuc (4294967296 - suc n)) ∙ ap (λ m. pick (ltb n 2147483648) (pos n) (negsuc m)) (omega arith)

-- ---- one after the other

pub signed-long : (bytes : List ℕ) (at m : ℕ) → length (signed_fields bytes at m) ≡ m
unfolding signed_fields
signed-long bytes at zero = refl
signed-long bytes at (suc m) = ap suc (signed-long bytes (at + 4) m)

signed-at : (bytes : List ℕ) (at m k : ℕ) → k < m → get_or (signed_fields bytes at m) k (pos 0) ≡ signed (field bytes (at + 4 * k) 4)
unfolding signed_fields
signed-at bytes at zero k h = absurd (let f : ⊥ = omega arith in f)
signed-at bytes at (suc m) zero h = ap (λ p. signed (field bytes p 4)) (let e : at ≡ at + 4 * 0 = omega arith in e)
signed-at bytes at (suc m) (suc k) h = signed-at bytes (at + 4) m k (omega arith) ∙ ap (λ p. signed (field bytes p 4)) (let e : at + 4 + 4 * k ≡ at + 4 * suc k = omega arith in e)

-- written one after the other: one more, and all
pub written-more : (bytes : List ℕ) (at m : ℕ) (to₀ to : List ℤ) (k : ℕ) (v : ℤ) → m ≤ length to₀ → k < m → v ≡ signed (field bytes (at + 4 * k) 4)
    → to ≡ paste to₀ 0 (signed_fields bytes at m) k → set to k v ≡ paste to₀ 0 (signed_fields bytes at m) (k + 1)
written-more bytes at m to₀ to k v room h e so_far =
    (λ t. set (so_far t) (sym (zero-add k) t) ((e ∙ sym (signed-at bytes at m k h)) t))
    ∙ paste-suc to₀ 0 (signed_fields bytes at m) k (pos 0) (omega arith) (omega (arith, signed-long bytes at m))
    ∙ ap (paste to₀ 0 (signed_fields bytes at m)) (sym (add-one k))

pub written-all : (bytes : List ℕ) (at m k : ℕ) (to₀ to : List ℤ) → k ≡ m → to ≡ paste to₀ 0 (signed_fields bytes at m) k → to ≡ written (signed_fields bytes at m) to₀
written-all bytes at m k to₀ to all so_far =
    let xs = signed_fields bytes at m in
    so_far ∙ ap (paste to₀ 0 xs) (all ∙ sym (signed-long bytes at m)) ∙ (λ t. take-length xs t ++ drop (zero-add (length xs) t) to₀)
