-- What stands at the front of the bytes, case by case, and that an answer says it. Assumes nothing.
use Prim.Native.Nat.{ℕ, ◌+◌, ◌*◌, ◌≤◌, ◌<◌}
use native.Mathlib.Omega.{arith}
use mathlib.Core.Path.{◌≡◌, refl, sym, ap, subst, transport, ◌∙◌}
use mathlib.Core.Bool.{Bool, true, false, not, ◌&&◌, ◌||◌}
use mathlib.Core.List.{List}
use lib.Dec.{eqb, ltb}
use lib.IntN.{ℤ}
use lib.ListN.{length, get_or, take, drop}
use lib.Seq.{take_at}
use lib.Ieee.{Float}
use borrow.Author.Tests.{lt-ltb, le-ltb, ne_eqb}
use Rattle.std.specs.Prelude.{◌-◌, Option, Some, None, Result, Ok, Err}
use Rattle.ring.specs.Choices.{pick}
use Rattle.ring.proofs.Pick.{pick_true, pick-false}
use Rattle.districts.specs.Lent.{written}
use Rattle.register.specs.declared.Position.TheVariants.{Grid, Fix, Missing}
use Rattle.history.specs.Histories.{Call, founding, splitting, merging, reporting}
use Rattle.refusals.specs.declared.Refusal.{Refusal}
use Rattle.refusals.specs.declared.Refusal.TheVariants.{BrokenRecord}
use Rattle.judging.specs.declared.Cut.{Cut}
use Rattle.judging.specs.declared.Seam.{Seam}
use Rattle.records.specs.declared.Decoded.{Decoded}
use Rattle.records.specs.declared.Record.TheVariants.{Outline, Split, Merge}
use Rattle.records.specs.Bytes.{field, signed, signed_fields}
use Rattle.records.specs.Layout.{Front, whole, more, broken, from, up_to, double, outline_front, split_front, merge_front, grid_front, fix_front, position_front, by_kind, front, pairs_front}
use Rattle.records.specs.Decoding.{Decodes, AllPairs, HasPairs}
use Rattle.records.proofs.Reading.{one_byte, signed-long}

abbrev pub Answer : Type 0
Answer = Result (Option Decoded) Refusal

-- ---- answers

pub says : (r : Answer) (f g : Front) (before after : List ℤ) → f ≡ g → Decodes r f before after → Decodes r g before after
says r f g before after e d = subst (λ h. Decodes r h before after) e d

-- an answer without a record leaves the list
pub more-needed : (f : Front) (to : List ℤ) → f ≡ more → Decodes (Ok None) f to to
more-needed f to e = says _ more f to to (sym e) (record { said = refl; counted = refl; left = refl; refused = tt })

pub broken-found : (f : Front) (to : List ℤ) → f ≡ broken → Decodes (Err BrokenRecord) f to to
broken-found f to e = says _ broken f to to (sym e) (record { said = refl; counted = refl; left = refl; refused = refl })

-- the coordinates stand in the first places
read_off : (bytes : List ℕ) (at m : ℕ) (before after : List ℤ) → after ≡ written (signed_fields bytes at m) before → take m after ≡ signed_fields bytes at m
read_off bytes at m before after e = ap (take m) e ∙ take_at (signed_fields bytes at m) (drop (length (signed_fields bytes at m)) before) m (signed-long bytes at m)

-- ---- more bytes, or enough

pub short : (bytes : List ℕ) (n : ℕ) (f : Front) → length bytes < n → from bytes n f ≡ more
short bytes n f h = pick_true (lt-ltb (length bytes) n h) _ _

pub enough : (bytes : List ℕ) (n : ℕ) (f : Front) → n ≤ length bytes → from bytes n f ≡ f
enough bytes n f h = pick-false (le-ltb (length bytes) n h) _ _

pub announced-many : (n : ℕ) (f : Front) → 2048 < n → pick (ltb 2048 n) broken f ≡ broken
announced-many n f h = pick_true (lt-ltb 2048 n h) _ _

pub announced-few : (n : ℕ) (f : Front) → n ≤ 2048 → pick (ltb 2048 n) broken f ≡ f
announced-few n f h = pick-false (le-ltb 2048 n h) _ _

-- ---- pairs

module _ (bytes : List ℕ) (at : ℕ) (call : List ℤ → Call) where
  pairs-whole : (n : ℕ) (before after : List ℤ) → AllPairs bytes at n before after → whole (call (signed_fields bytes at (2 * n))) (at + 8 * n) ≡ pairs_front bytes at call
  pairs-whole n before after a =
      let m = field bytes (at - 2) 2 in
      let is = a.announced in
      ap (λ k. whole (call (signed_fields bytes at (2 * k))) (at + 8 * k)) is
      ∙ sym (enough bytes at _ (omega (arith, a.there)) ∙ announced-few m _ (omega (arith, is, a.few)) ∙ enough bytes (at + 8 * m) _ (omega (arith, is, a.there)))

module _ (bytes : List ℕ) (at : ℕ) (call : List ℤ → Call) (before after : List ℤ) where
  pub no-pairs : (o : Option ℕ) → o ≡ None → HasPairs (Ok o) bytes at before after → Decodes (Ok None) (pairs_front bytes at call) before after
  no-pairs o e h =
      let none : HasPairs (Ok None) bytes at before after = subst (λ p. HasPairs (Ok p) bytes at before after) e h in
      subst (Decodes (Ok None) (pairs_front bytes at call) before) (sym none.1) (more-needed _ before (none.0 call))

  pub broken-pairs : (r : Refusal) → HasPairs (Err r) bytes at before after → Decodes (Err r) (pairs_front bytes at call) before after
  broken-pairs r h = transport (λ i. Decodes (Err (sym h.0 i)) (pairs_front bytes at call) before (sym h.2 i)) (broken-found _ before (h.1 call))

pub all-pairs : (bytes : List ℕ) (at n : ℕ) (before after : List ℤ) (o : Option ℕ) → o ≡ Some n → HasPairs (Ok o) bytes at before after → AllPairs bytes at n before after
all-pairs bytes at n before after o e h = subst (λ p. HasPairs (Ok p) bytes at before after) e h

-- ---- whole records

-- the call that a split's fields make of its pairs
abbrev pub splits : List ℕ → List ℤ → Call
splits bytes = splitting (field bytes 3 1) (field bytes 4 2) (field bytes 6 2)

module _ (bytes : List ℕ) (before after : List ℤ) where
  pub outline-whole : (n : ℕ) → AllPairs bytes 5 n before after → Decodes (Ok (Some (record { «record» = Outline n; taken = 5 + 8 * n }))) (outline_front bytes) before after
  outline-whole n a = says _ _ _ before after (pairs-whole bytes 5 founding n before after a) (record {
    said = ap (λ l. whole (founding l) (5 + 8 * n)) (read_off bytes 5 (2 * n) before after a.left);
    counted = refl;
    left = a.left;
    refused = tt;
  })

  pub split-whole : (c : Cut) (k : ℕ) → c.d ≡ field bytes 3 1 → c.i ≡ field bytes 4 2 → c.j ≡ field bytes 6 2 → AllPairs bytes 10 k before after
      → Decodes (Ok (Some (record { «record» = Split c k; taken = 10 + 8 * k }))) (split_front bytes) before after
  split-whole c k hd hi hj a = says _ _ _ before after (pairs-whole bytes 10 (splits bytes) k before after a) (record {
    said = λ s. whole (splitting (hd s) (hi s) (hj s) (read_off bytes 10 (2 * k) before after a.left s)) (10 + 8 * k);
    counted = refl;
    left = a.left;
    refused = tt;
  })

-- a record without pairs, once its bytes are there
pub up-to-whole : (bytes : List ℕ) (r : Answer) (n : ℕ) (c d : Call) (to : List ℤ) → c ≡ d → n ≤ length bytes → Decodes r (whole c n) to to → Decodes r (up_to bytes n d) to to
up-to-whole bytes r n c d to e there = says r (whole c n) (up_to bytes n d) to to (ap (λ x. whole x n) e ∙ sym (enough bytes n (whole d n) there))

pub merge-whole : (bytes : List ℕ) (to : List ℤ) (s : Seam) → s.kept ≡ field bytes 3 1 → s.a ≡ field bytes 4 2 → s.gone ≡ field bytes 6 1 → s.b ≡ field bytes 7 2 → s.k ≡ field bytes 9 2 → 11 ≤ length bytes
    → Decodes (Ok (Some (record { «record» = Merge s; taken = 11 }))) (merge_front bytes) to to
merge-whole bytes to s h_a ha h_b hb hk least =
    up-to-whole bytes _ 11 (merging s.kept s.a s.gone s.b s.k) _ to (λ t. merging (h_a t) (ha t) (h_b t) (hb t) (hk t)) least (record { said = refl; counted = refl; left = refl; refused = tt })

pub grid-whole : (bytes : List ℕ) (to : List ℤ) (r : Answer) (at : ℕ) (x y : ℤ) → x ≡ signed (field bytes at 4) → y ≡ signed (field bytes (at + 4) 4) → at + 8 ≤ length bytes
    → Decodes r (whole (reporting (field bytes 3 4) (Grid x y)) (at + 8)) to to → Decodes r (grid_front bytes at) to to
grid-whole bytes to r at x y hx hy = up-to-whole bytes r (at + 8) _ _ to (λ s. reporting (field bytes 3 4) (Grid (hx s) (hy s)))

pub fix-whole : (bytes : List ℕ) (to : List ℤ) (r : Answer) (at : ℕ) (x y : Float) → x ≡ double bytes at → y ≡ double bytes (at + 8) → at + 16 ≤ length bytes
    → Decodes r (whole (reporting (field bytes 3 4) (Fix (record { easting = x; northing = y }))) (at + 16)) to to → Decodes r (fix_front bytes at) to to
fix-whole bytes to r at x y hx hy = up-to-whole bytes r (at + 16) _ _ to (λ s. reporting (field bytes 3 4) (Fix (record { easting = hx s; northing = hy s })))

-- ---- the mark and the kind

pub front-short : (bytes : List ℕ) → length bytes < 3 → front bytes ≡ more
unfolding front
front-short bytes h = short bytes 3 _ h

-- the two bytes of the mark, as the code asks for them and as the layout does
unmarked : (bytes : List ℕ) → 3 ≤ length bytes → not (eqb (get_or bytes 0 0) 79) || not (eqb (get_or bytes 1 0) 71) ≡ not (eqb (field bytes 0 1) 79 && eqb (field bytes 1 1) 71)
unmarked bytes h = either (eqb (get_or bytes 0 0) 79) (eqb (get_or bytes 1 0) 71) ∙ (λ i. not (eqb (one_byte bytes 0 (omega arith) i) 79 && eqb (one_byte bytes 1 (omega arith) i) 71))
  where
    either : (a b : Bool) → not a || not b ≡ not (a && b)
    either true b = refl
    either false b = refl

module _ (bytes : List ℕ) (there : 3 ≤ length bytes) where
  pub front-unmarked : not (eqb (get_or bytes 0 0) 79) || not (eqb (get_or bytes 1 0) 71) ≡ true → front bytes ≡ broken
  unfolding front
  front-unmarked e = enough bytes 3 _ there ∙ pick_true (sym (unmarked bytes there) ∙ e) _ _

  pub kinded : (k : ℕ) → not (eqb (get_or bytes 0 0) 79) || not (eqb (get_or bytes 1 0) 71) ≡ false → get_or bytes 2 0 ≡ k → by_kind k bytes ≡ front bytes
  unfolding front
  kinded k e is = ap (λ n. by_kind n bytes) (sym is ∙ one_byte bytes 2 (omega arith)) ∙ sym (enough bytes 3 _ there ∙ pick-false (sym (unmarked bytes there) ∙ e) _ _)

pub unknown-kind : (bytes : List ℕ) (k : ℕ) → (k ≡ 1 → ⊥) → (k ≡ 2 → ⊥) → (k ≡ 3 → ⊥) → (k ≡ 4 → ⊥) → (k ≡ 5 → ⊥) → by_kind k bytes ≡ broken
unknown-kind bytes k a b c d e =
    pick-false (ne_eqb k 1 a) _ _ ∙ pick-false (ne_eqb k 2 b) _ _ ∙ pick-false (ne_eqb k 3 c) _ _ ∙ pick-false (ne_eqb k 4 d) _ _ ∙ pick-false (ne_eqb k 5 e) _ _

-- ---- the byte that says what a position is

abbrev pub by_what : ℕ → List ℕ → Front
by_what what bytes =
    pick (eqb what 0) (up_to bytes 8 (reporting (field bytes 3 4) Missing))
    (pick (eqb what 1) (grid_front bytes 8)
    (pick (eqb what 2) (fix_front bytes 8) broken))

pub what-told : (bytes : List ℕ) (w : ℕ) → 8 ≤ length bytes → w ≡ field bytes 7 1 → by_what w bytes ≡ position_front bytes
what-told bytes w there e = ap (λ v. by_what v bytes) e ∙ sym (enough bytes 8 _ there)

pub unknown-what : (bytes : List ℕ) (w : ℕ) → (w ≡ 0 → ⊥) → (w ≡ 1 → ⊥) → (w ≡ 2 → ⊥) → by_what w bytes ≡ broken
unknown-what bytes w a b c = pick-false (ne_eqb w 0 a) _ _ ∙ pick-false (ne_eqb w 1 b) _ _ ∙ pick-false (ne_eqb w 2 c) _ _
