-- More bytes behind do not change what stands at the front, once it is more than the beginning of a record. Assumes nothing.
use Prim.Native.Nat.{ℕ, zero, suc, ◌+◌, ◌-◌, ◌*◌, ◌≤◌}
use native.Mathlib.Omega.{arith}
use mathlib.Core.Path.{◌≡◌, refl, sym, ap, subst, ◌∙◌}
use mathlib.Core.Bool.{Bool, true, false, not, ◌&&◌}
use mathlib.Core.List.{List, ◌∷◌, ◌++◌}
use lib.Dec.{ltb, eqb}
use lib.IntN.{ℤ}
use lib.ListN.{length, take, drop, length-drop, length-append}
use lib.Seq.{take-append-le, drop-append-le}
use lib.Ieee.{binary64, of_bits}
use borrow.Author.Tests.{le-ltb, ltb-false}
use Rattle.ring.specs.Choices.{pick}
use Rattle.ring.proofs.Pick.{pick-false}
use Rattle.register.specs.declared.Position.TheVariants.{Grid, Fix, Missing}
use Rattle.history.specs.Histories.{Call, founding, splitting, merging, reporting}
use Rattle.records.specs.Bytes.{little_endian, field, signed, signed_fields}
use Rattle.records.specs.Layout.{Front, whole, more, broken, first_mark, second_mark, from, up_to, pairs_front, outline_front, split_front, merge_front, grid_front, fix_front, position_front, by_kind, front}
use Rattle.records.proofs.Fronts.{by_what, splits}

-- what is decided stays
abbrev Keeps : Front → Front → Type 0
Keeps (whole c n) g = g ≡ whole c n
Keeps more g = Unit
Keeps broken g = g ≡ broken

-- both choices by the same test
keeps-pick : (b : Bool) (f g f' g' : Front) → Keeps f g → Keeps f' g' → Keeps (pick b f f') (pick b g g')
keeps-pick true f g f' g' k l = k
keeps-pick false f g f' g' k l = l

module _ (bytes rest : List ℕ) where
  abbrev all : List ℕ
  all = bytes ++ rest

  field-same : (at width : ℕ) → at + width ≤ length bytes → field all at width ≡ field bytes at width
  field-same at width h =
      ap (λ l. little_endian (take width l)) (drop-append-le at bytes rest (omega (arith, h)))
      ∙ ap little_endian (take-append-le width (drop at bytes) rest (omega (arith, h, length-drop at bytes)))

  signed_same : (m at : ℕ) → at + 4 * m ≤ length bytes → signed_fields all at m ≡ signed_fields bytes at m
  unfolding signed_fields
  signed_same zero at h = refl
  signed_same (suc m) at h = λ i. signed (field-same at 4 (omega (arith, h)) i) ∷ signed_same m (at + 4) (omega (arith, h)) i

  keeps-from : (n : ℕ) (f g : Front) → (n ≤ length bytes → Keeps f g) → Keeps (from bytes n f) (from all n g)
  keeps-from n f g h = say (ltb (length bytes) n) refl
    where
      say : (b : Bool) → ltb (length bytes) n ≡ b → Keeps (pick b more f) (from all n g)
      say true e = tt
      say false e =
          let there = ltb-false (length bytes) n e in
          subst (Keeps f) (sym (pick-false (le-ltb (length all) n (omega (arith, there, length-append bytes rest))) more g)) (h there)

  keeps-up-to : (n : ℕ) (c d : Call) → (n ≤ length bytes → c ≡ d) → Keeps (up_to bytes n c) (up_to all n d)
  keeps-up-to n c d h = keeps-from n (whole c n) (whole d n) (λ there. sym (ap (λ x. whole x n) (h there)))

  -- ---- by kind

  -- pairs, and a call of them that is the same once there are so many bytes
  keeps-pairs : (at : ℕ) (call call' : List ℤ → Call) → 2 ≤ at → (at ≤ length bytes → call ≡ call') → Keeps (pairs_front bytes at call) (pairs_front all at call')
  keeps-pairs at call call' least told =
      keeps-from at _ _ (λ h. subst (λ n. Keeps (behind bytes (field bytes (at - 2) 2) call) (behind all n call')) (sym (field-same (at - 2) 2 (omega (arith, least, h)))) (same (field bytes (at - 2) 2) (told h)))
    where
      behind : List ℕ → ℕ → (List ℤ → Call) → Front
      behind l n c = pick (ltb 2048 n) broken (up_to l (at + 8 * n) (c (signed_fields l at (2 * n))))

      same : (n : ℕ) → call ≡ call' → Keeps (behind bytes n call) (behind all n call')
      same n e = keeps-pick (ltb 2048 n) broken broken _ _ refl (keeps-up-to (at + 8 * n) _ _ (λ h. λ t. e t (sym (signed_same (2 * n) at (omega (arith, h))) t)))

  keeps-outline : Keeps (outline_front bytes) (outline_front all)
  keeps-outline = keeps-pairs 5 founding founding (omega arith) (λ h. refl)

  keeps-split : Keeps (split_front bytes) (split_front all)
  keeps-split =
      keeps-pairs 10 (splits bytes) (splits all) (omega arith) (λ h.
      let d = field-same 3 1 (omega (arith, h)) in
      let i = field-same 4 2 (omega (arith, h)) in
      let j = field-same 6 2 (omega (arith, h)) in
      λ t. splitting (sym d t) (sym i t) (sym j t))

  keeps_merge : Keeps (merge_front bytes) (merge_front all)
  keeps_merge =
      keeps-up-to 11 _ _ (λ h.
      let A = field-same 3 1 (omega (arith, h)) in
      let a = field-same 4 2 (omega (arith, h)) in
      let B = field-same 6 1 (omega (arith, h)) in
      let b = field-same 7 2 (omega (arith, h)) in
      let k = field-same 9 2 (omega (arith, h)) in
      λ t. merging (sym A t) (sym a t) (sym B t) (sym b t) (sym k t))

  keeps-grid : (at : ℕ) → 7 ≤ at → Keeps (grid_front bytes at) (grid_front all at)
  keeps-grid at behind =
      keeps-up-to (at + 8) _ _ (λ h.
      let r = field-same 3 4 (omega (arith, h, behind)) in
      let x = field-same at 4 (omega (arith, h)) in
      let y = field-same (at + 4) 4 (omega (arith, h)) in
      λ t. reporting (sym r t) (Grid (signed (sym x t)) (signed (sym y t))))

  keeps-fix : Keeps (fix_front bytes 8) (fix_front all 8)
  keeps-fix =
      keeps-up-to 24 _ _ (λ h.
      let r = field-same 3 4 (omega (arith, h)) in
      let x = field-same 8 8 (omega (arith, h)) in
      let y = field-same 16 8 (omega (arith, h)) in
      λ t. reporting (sym r t) (Fix (record { easting = of_bits binary64 (sym x t); northing = of_bits binary64 (sym y t) })))

  keeps-position : Keeps (position_front bytes) (position_front all)
  keeps-position = keeps-from 8 (by_what (field bytes 7 1) bytes) (by_what (field all 7 1) all) (λ h. subst (λ w. Keeps (by_what (field bytes 7 1) bytes) (by_what w all)) (sym (field-same 7 1 h)) (same (field bytes 7 1)))
    where
      missing : Keeps (up_to bytes 8 (reporting (field bytes 3 4) Missing)) (up_to all 8 (reporting (field all 3 4) Missing))
      missing = keeps-up-to 8 _ _ (λ h. ap (λ r. reporting r Missing) (sym (field-same 3 4 (omega (arith, h)))))

      same : (w : ℕ) → Keeps (by_what w bytes) (by_what w all)
      same w =
          keeps-pick (eqb w 0) _ _ _ _ missing
          (keeps-pick (eqb w 1) _ _ _ _ (keeps-grid 8 (omega arith))
          (keeps-pick (eqb w 2) _ _ broken broken keeps-fix refl))

  keeps-kind : (kind : ℕ) → Keeps (by_kind kind bytes) (by_kind kind all)
  keeps-kind kind =
      keeps-pick (eqb kind 1) _ _ _ _ keeps-outline
      (keeps-pick (eqb kind 2) _ _ _ _ keeps-split
      (keeps-pick (eqb kind 3) _ _ _ _ keeps_merge
      (keeps-pick (eqb kind 4) _ _ _ _ (keeps-grid 7 (omega arith))
      (keeps-pick (eqb kind 5) _ _ broken broken keeps-position refl))))

  keeps-front : Keeps (front bytes) (front all)
  unfolding front
  keeps-front = keeps-from 3 (headed bytes (field bytes 0 1) (field bytes 1 1) (field bytes 2 1)) (headed all (field all 0 1) (field all 1 1) (field all 2 1)) (λ h.
      let first = field-same 0 1 (omega (arith, h)) in
      let second = field-same 1 1 (omega (arith, h)) in
      let kind = field-same 2 1 (omega (arith, h)) in
      subst (Keeps (headed bytes (field bytes 0 1) (field bytes 1 1) (field bytes 2 1))) (λ t. headed all (sym first t) (sym second t) (sym kind t)) (same (field bytes 0 1) (field bytes 1 1) (field bytes 2 1)))
    where
      headed : List ℕ → ℕ → ℕ → ℕ → Front
      headed l a b kind = pick (not (eqb a first_mark && eqb b second_mark)) broken (by_kind kind l)

      same : (a b kind : ℕ) → Keeps (headed bytes a b kind) (headed all a b kind)
      same a b kind = keeps-pick (not (eqb a first_mark && eqb b second_mark)) broken broken _ _ refl (keeps-kind kind)

pub whole-longer : (bytes rest : List ℕ) (c : Call) (n : ℕ) → front bytes ≡ whole c n → front (bytes ++ rest) ≡ whole c n
whole-longer bytes rest c n e = subst (λ f. Keeps f (front (bytes ++ rest))) e (keeps-front bytes rest)

pub broken-longer : (bytes rest : List ℕ) → front bytes ≡ broken → front (bytes ++ rest) ≡ broken
broken-longer bytes rest e = subst (λ f. Keeps f (front (bytes ++ rest))) e (keeps-front bytes rest)
