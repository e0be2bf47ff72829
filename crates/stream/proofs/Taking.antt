-- What a decoded record makes of taking it. Assumes nothing.
use Prim.Native.Nat.{ℕ, ◌+◌, ◌-◌, ◌*◌, ◌≤◌}
use native.Mathlib.Omega.{arith}
use mathlib.Core.Path.{◌≡◌, sym, ap, subst, ◌∙◌}
use mathlib.Core.List.{List}
use lib.IntN.{ℤ}
use lib.ListN.{take}
use Rattle.std.specs.Prelude.{Option, Some, Ok}
use Rattle.districts.specs.Lent.{Lists, formed, means}
use Rattle.judging.specs.declared.Cut.{Cut}
use Rattle.tally.specs.declared.Tally.{Tally}
use Rattle.history.specs.Histories.{Call, founding, splitting}
use Rattle.wording.specs.Lines as Lines
use Rattle.wording.specs.Lines.{said_of}
use Rattle.records.specs.declared.Decoded.{Decoded}
use Rattle.records.specs.declared.Record.{Record}
use Rattle.records.specs.declared.Record.TheVariants.{Outline, Split}
use Rattle.records.specs.Layout.{whole, front}
use Rattle.records.specs.Decoding.{record_of, front_of, taken_of, taken_for, Decodes}
use Rattle.records.proofs.Sizes.{whole-size}
use Rattle.stream.specs.declared.advancing.Advanced.{Advanced}
use Rattle.stream.specs.Replies.{replied, tallied_by, kind_of, LeftBy}
use Rattle.stream.specs.Advancing.{answered, told_for, tallied_for, LeftFor, AdvancedBy}

module _ (bytes : List ℕ) (o : Option Decoded) (d : Decoded) (some : o ≡ Some d) (to to' : List ℤ) (by : Decodes (Ok o) (front bytes) to to') where
  -- the record that was decoded is what stands there
  there : (x : Record) → d.record ≡ x → record_of x d.taken to' ≡ front bytes
  there x is = sym (λ i. record_of (is i) d.taken to') ∙ sym (λ i. front_of (Ok (some i)) to') ∙ by.said

  -- its coordinates, an outline's or a path's, are in the lent list
  pub outline-fits : (n : ℕ) → d.record ≡ Outline n → 2 * n ≤ 4096
  outline-fits n is = let size = (whole-size bytes _ (5 + 8 * n) (sym (there (Outline n) is))).most in omega (arith, size)

  pub path-fits : (c : Cut) (k : ℕ) → d.record ≡ Split c k → 2 * k ≤ 4096
  path-fits c k is = let size = (whole-size bytes _ (10 + 8 * k) (sym (there (Split c k) is))).most in omega (arith, size)

  -- the answer is that of the call that was made of it
  pub advanced : (x : Record) → d.record ≡ x → (c : Call) (n : ℕ) → whole c n ≡ record_of x d.taken to' → (a : Advanced) → a.taken ≡ d.taken → (t t' : Tally) (before after : Lists)
      → Lines.kind_of a.kind ≡ kind_of c → said_of a.said ≡ replied (formed before) (means before) t c → t' ≡ tallied_by (formed before) (means before) t c → LeftBy c before after
      → AdvancedBy (Ok (Some a)) (front bytes) t t' to to' before after
  advanced x is c n made a bytes_taken t t' before after kind said counted left =
      let e : whole c n ≡ front bytes = made ∙ there x is in
      record {
        told = (λ i. answered (kind i) (said i)) ∙ ap (λ h. told_for h (formed before) (means before) t) e;
        taken = bytes_taken ∙ taken-so;
        tally = counted ∙ ap (λ h. tallied_for h (formed before) (means before) t) e;
        coordinates = by.left;
        left = subst (λ h. LeftFor h before after) e left;
        refused = tt;
      }
    where
      taken-so : d.taken ≡ taken_for (front bytes)
      taken-so = sym (λ i. taken_of (Ok (some i))) ∙ by.counted

-- a part of a list that starts at its first place
from_first : (list : List ℤ) (m : ℕ) → take (m - 0) list ≡ take m list
from_first list m = let e : m - 0 ≡ m = omega arith in ap (λ n. take n list) e

-- the records whose coordinates are lent
pub outline-of : (n taken : ℕ) (list : List ℤ) → whole (founding (take (2 * n - 0) list)) (5 + 8 * n) ≡ record_of (Outline n) taken list
outline-of n taken list = ap (λ xs. whole (founding xs) (5 + 8 * n)) (from_first list (2 * n))

pub split_of : (c : Cut) (k taken : ℕ) (list : List ℤ) → whole (splitting c.d c.i c.j (take (2 * k - 0) list)) (10 + 8 * k) ≡ record_of (Split c k) taken list
split_of c k taken list = ap (λ path. whole (splitting c.d c.i c.j path) (10 + 8 * k)) (from_first list (2 * k))
