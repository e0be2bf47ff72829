-- What was encoded is decoded again, whatever follows it. Assumes nothing.
use Prim.Native.Nat.{ℕ, zero, suc, ◌+◌, ◌*◌, ◌-◌, ◌/◌, ◌^◌, ◌≤◌, ◌<◌}
use native.Mathlib.Nat.{pow-succ'}
use native.Mathlib.Omega.{arith}
use mathlib.Core.Path.{◌≡◌, refl, sym, ap, ◌∙◌}
use mathlib.Core.List.{List, [], ◌∷◌}
use lib.Dec.{ltb}
use lib.IntN.{ℤ, pos, negsuc}
use lib.ListN.{length, take, drop, length-drop}
use lib.Seq.{drop-drop}
use lib.Ieee.{binary64, of_bits, to_bits}
use lib.Ieee.Bits.{of_bits-to_bits, to_bits-lt}
use borrow.Author.Tests.{lt-ltb, le-ltb}
use Rattle.ring.specs.Choices.{pick}
use Rattle.ring.proofs.Pick.{pick_true, pick-false}
use Rattle.fixes.specs.declared.Fix as Fixes
use Rattle.register.specs.declared.Position.{Position}
use Rattle.register.specs.declared.Position.TheVariants.{Grid, Fix, Missing}
use Rattle.history.specs.Histories.{Call, founding, splitting, merging, reporting}
use Rattle.records.specs.Bytes.{little_endian, field, signed, signed_fields}
use Rattle.records.specs.Layout.{whole, broken, up_to, pairs_front, grid_front, fix_front, front}
use Rattle.records.specs.Encoding.{in_front, bits, all_in_front, position_in_front, encode_position, encode_report, encode, Fits, AllFit, Pairs, Sendable, Encodable}
use Rattle.records.proofs.Fronts.{enough, announced-few, splits}

-- ---- fields

number-back : (w n : ℕ) (rest : List ℕ) → n < 256 ^ w → little_endian (take w (in_front w n rest)) ≡ n
unfolding little_endian in_front
number-back zero n rest h = omega arith
number-back (suc w) n rest h = let e = number-back w (n / 256) rest (omega (arith, pow-succ' 256 w)) in omega (arith, e)

number-long : (w n : ℕ) (rest : List ℕ) → length (in_front w n rest) ≡ w + length rest
unfolding in_front
number-long zero n rest = omega arith
number-long (suc w) n rest = let e = number-long w (n / 256) rest in omega (arith, e)

number-left : (w n : ℕ) (rest : List ℕ) → drop w (in_front w n rest) ≡ rest
unfolding in_front
number-left zero n rest = refl
number-left (suc w) n rest = number-left w (n / 256) rest

-- a number read from where it stands, and what stands behind it
module _ (w n : ℕ) (bytes rest : List ℕ) (at : ℕ) (e : drop at bytes ≡ in_front w n rest) where
  read_back : n < 256 ^ w → field bytes at w ≡ n
  read_back h = ap (λ l. little_endian (take w l)) e ∙ number-back w n rest h

  left_behind : drop (at + w) bytes ≡ rest
  left_behind = sym (drop-drop w at bytes) ∙ ap (drop w) e ∙ number-left w n rest

bits_most : (x : ℤ) → Fits x → bits x < 4294967296
bits_most (pos n) h = omega arith
bits_most (negsuc n) h = omega arith

signed-bits : (x : ℤ) → Fits x → signed (bits x) ≡ x
signed-bits (pos n) h = pick_true (lt-ltb n 2147483648 h) _ _
signed-bits (negsuc n) h = pick-false (le-ltb (4294967295 - n) 2147483648 (omega arith)) _ _ ∙ ap negsuc (omega arith)

-- so many signed numbers, read from where they stand
all_back : (xs : List ℤ) (bytes rest : List ℕ) (at : ℕ) → drop at bytes ≡ all_in_front xs rest → AllFit xs → signed_fields bytes at (length xs) ≡ xs
unfolding signed_fields all_in_front
all_back [] bytes rest at e fit = refl
all_back (x ∷ xs) bytes rest at e fit =
    let behind = all_in_front xs rest in
    let here = read_back 4 (bits x) bytes behind at e (bits_most x fit.0) in
    λ t. (ap signed here ∙ signed-bits x fit.0) t ∷ all_back xs bytes rest (at + 4) (left_behind 4 (bits x) bytes behind at e) fit.1 t

all-long : (xs : List ℤ) (rest : List ℕ) → length (all_in_front xs rest) ≡ 4 * length xs + length rest
unfolding all_in_front
all-long [] rest = omega arith
all-long (x ∷ xs) rest = omega (arith, number-long 4 (bits x) (all_in_front xs rest), all-long xs rest)

-- ---- records

merge-back : (A a B b k : ℕ) (rest : List ℕ) → Encodable (merging A a B b k) → front (encode (merging A a B b k) rest) ≡ whole (merging A a B b k) 11
unfolding front encode in_front little_endian
merge-back A a B b k rest h =
    let bytes = encode (merging A a B b k) rest in
    enough bytes 3 _ (omega arith)
    ∙ enough bytes 11 _ (omega arith)
    ∙ (λ t. whole (merging (number-back 1 A [] h.0 t) (number-back 2 a [] h.1 t) (number-back 1 B [] h.2 t) (number-back 2 b [] h.3 t) (number-back 2 k [] h.4 t)) 11)

-- pairs that stand from a place on, announced before it
pairs-back : (bytes rest : List ℕ) (at : ℕ) (call : List ℤ → Call) (xs : List ℤ) → at ≤ length bytes → drop at bytes ≡ all_in_front xs rest → field bytes (at - 2) 2 ≡ length xs / 2 → Pairs xs
    → pairs_front bytes at call ≡ whole (call xs) (at + 8 * (length xs / 2))
pairs-back bytes rest at call xs there e announced pairs =
    let n = length xs / 2 in
    let twice : 2 * n ≡ length xs = omega (arith, pairs.even) in
    enough bytes at _ there
    ∙ (λ t. pick (ltb 2048 (announced t)) broken (up_to bytes (at + 8 * announced t) (call (signed_fields bytes at (2 * announced t)))))
    ∙ announced-few n _ pairs.most
    ∙ enough bytes (at + 8 * n) _ (omega (arith, there, twice, ap length e, length-drop at bytes, all-long xs rest))
    ∙ ap (λ l. whole (call l) (at + 8 * n)) (ap (signed_fields bytes at) twice ∙ all_back xs bytes rest at e pairs.fit)

split-back : (d i j : ℕ) (path : List ℤ) (rest : List ℕ) → Encodable (splitting d i j path) → front (encode (splitting d i j path) rest) ≡ whole (splitting d i j path) (10 + 8 * (length path / 2))
unfolding front encode in_front little_endian
split-back d i j path rest h =
    let bytes = encode (splitting d i j path) rest in
    enough bytes 3 _ (omega arith)
    ∙ pairs-back bytes rest 10 (splits bytes) path (omega arith) refl (number-back 2 (length path / 2) [] (omega (arith, h.3.most))) h.3
    ∙ (λ t. whole (splitting (number-back 1 d [] h.0 t) (number-back 2 i [] h.1 t) (number-back 2 j [] h.2 t) path) (10 + 8 * (length path / 2)))

found_back : (xs : List ℤ) (rest : List ℕ) → Encodable (founding xs) → front (encode (founding xs) rest) ≡ whole (founding xs) (5 + 8 * (length xs / 2))
unfolding front encode in_front little_endian
found_back xs rest pairs =
    let bytes = encode (founding xs) rest in
    enough bytes 3 _ (omega arith) ∙ pairs-back bytes rest 5 founding xs (omega arith) refl (number-back 2 (length xs / 2) [] (omega (arith, pairs.most))) pairs

-- ---- reports

-- two values of so many bytes end the bytes of a report
module _ (w m n : ℕ) (bytes rest : List ℕ) (at : ℕ) (e : drop at bytes ≡ in_front w m (in_front w n rest)) where
  first_back : m < 256 ^ w → field bytes at w ≡ m
  first_back = read_back w m bytes (in_front w n rest) at e

  second_back : n < 256 ^ w → field bytes (at + w) w ≡ n
  second_back = read_back w n bytes rest (at + w) (left_behind w m bytes (in_front w n rest) at e)

  both-there : 0 < w → at + (w + w) ≤ length bytes
  both-there h = omega (arith, h, ap length e, length-drop at bytes, number-long w m (in_front w n rest), number-long w n rest)

grid-back : (r : ℕ) (x y : ℤ) (bytes rest : List ℕ) (at : ℕ) → field bytes 3 4 ≡ r → drop at bytes ≡ in_front 4 (bits x) (in_front 4 (bits y) rest) → Sendable (Grid x y) → grid_front bytes at ≡ whole (reporting r (Grid x y)) (at + 8)
grid-back r x y bytes rest at number e h =
    let across = ap signed (first_back 4 (bits x) (bits y) bytes rest at e (bits_most x h.0)) ∙ signed-bits x h.0 in
    let up = ap signed (second_back 4 (bits x) (bits y) bytes rest at e (bits_most y h.1)) ∙ signed-bits y h.1 in
    enough bytes (at + 8) _ (both-there 4 (bits x) (bits y) bytes rest at e (omega arith)) ∙ (λ t. whole (reporting (number t) (Grid (across t) (up t))) (at + 8))

fix-back : (r : ℕ) (f : Fixes.Fix) (bytes rest : List ℕ) (at : ℕ) → field bytes 3 4 ≡ r → drop at bytes ≡ in_front 8 (to_bits binary64 f.easting) (in_front 8 (to_bits binary64 f.northing) rest) → Sendable (Fix f) → fix_front bytes at ≡ whole (reporting r (Fix f)) (at + 16)
fix-back r f bytes rest at number e h =
    let m = to_bits binary64 f.easting in
    let n = to_bits binary64 f.northing in
    let east = ap (of_bits binary64) (first_back 8 m n bytes rest at e (to_bits-lt binary64 f.easting h.0)) ∙ of_bits-to_bits binary64 f.easting h.0 in
    let north = ap (of_bits binary64) (second_back 8 m n bytes rest at e (to_bits-lt binary64 f.northing h.1)) ∙ of_bits-to_bits binary64 f.northing h.1 in
    enough bytes (at + 16) _ (both-there 8 m n bytes rest at e (omega arith)) ∙ (λ t. whole (reporting (number t) (Fix (record { easting = east t; northing = north t }))) (at + 16))

-- how many bytes kind 5 has
abbrev pub position_long : Position → ℕ
position_long (Grid x y) = 16
position_long (Fix f) = 24
position_long Missing = 8

-- kind 5 carries every position, a grid position too
pub position-back : (r : ℕ) (p : Position) (rest : List ℕ) → r < 4294967296 → Sendable p → front (encode_position r p rest) ≡ whole (reporting r p) (position_long p)
unfolding front encode_position position_in_front in_front little_endian
position-back r (Grid x y) rest small h =
    let bytes = encode_position r (Grid x y) rest in
    enough bytes 3 _ (omega arith) ∙ enough bytes 8 _ (omega arith) ∙ grid-back r x y bytes rest 8 (number-back 4 r [] small) refl h
position-back r (Fix f) rest small h =
    let bytes = encode_position r (Fix f) rest in
    enough bytes 3 _ (omega arith) ∙ enough bytes 8 _ (omega arith) ∙ fix-back r f bytes rest 8 (number-back 4 r [] small) refl h
position-back r Missing rest small h =
    let bytes = encode_position r Missing rest in
    enough bytes 3 _ (omega arith) ∙ enough bytes 8 _ (omega arith) ∙ enough bytes 8 _ (omega arith) ∙ ap (λ n. whole (reporting n Missing) 8) (number-back 4 r [] small)

abbrev report_long : Position → ℕ
report_long (Grid x y) = 15
report_long (Fix f) = position_long (Fix f)
report_long Missing = position_long Missing

report-back : (r : ℕ) (p : Position) (rest : List ℕ) → Encodable (reporting r p) → front (encode_report r p rest) ≡ whole (reporting r p) (report_long p)
unfolding front encode_report in_front little_endian
report-back r (Grid x y) rest h =
    let bytes = encode_report r (Grid x y) rest in
    enough bytes 3 _ (omega arith) ∙ grid-back r x y bytes rest 7 (number-back 4 r [] h.0) refl h.1
report-back r (Fix f) rest h = position-back r (Fix f) rest h.0 h.1
report-back r Missing rest h = position-back r Missing rest h.0 h.1

-- ---- together

-- a record has as many bytes as are decoded
long : Call → ℕ
long (founding xs) = 5 + 8 * (length xs / 2)
long (splitting d i j path) = 10 + 8 * (length path / 2)
long (merging A a B b k) = 11
long (reporting r p) = report_long p

report-long : (r : ℕ) (p : Position) → report_long p ≡ length (encode_report r p [])
unfolding encode_report encode_position position_in_front in_front
report-long r (Grid x y) = refl
report-long r (Fix f) = refl
report-long r Missing = refl

long-is : (c : Call) → Encodable c → long c ≡ length (encode c [])
unfolding long encode in_front
long-is (founding xs) h = omega (arith, all-long xs [], h.even)
long-is (splitting d i j path) h = omega (arith, all-long path [], h.3.even)
long-is (merging A a B b k) h = refl
long-is (reporting r p) h = report-long r p

back : (c : Call) (rest : List ℕ) → Encodable c → front (encode c rest) ≡ whole c (long c)
unfolding long encode
back (founding xs) rest h = found_back xs rest h
back (splitting d i j path) rest h = split-back d i j path rest h
back (merging A a B b k) rest h = merge-back A a B b k rest h
back (reporting r p) rest h = report-back r p rest h

-- whatever follows a record, it is decoded as it was encoded, and as many bytes are taken as it has
pub decoded : (c : Call) (rest : List ℕ) → Encodable c → front (encode c rest) ≡ whole c (length (encode c []))
decoded c rest h = back c rest h ∙ ap (whole c) (long-is c h)
