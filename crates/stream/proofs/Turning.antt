-- One turn of printing in which a record was answered. Assumes nothing.
use Prim.Native.Nat.{ℕ, ◌+◌, ◌-◌, ◌≤◌, ◌<◌}
use native.Mathlib.Omega.{arith}
use mathlib.Core.Path.{◌≡◌, refl, sym, ap, subst, transport, ◌∙◌}
use mathlib.Core.Bool.{Bool, true}
use mathlib.Core.List.{List}
use lib.IntN.{ℤ}
use lib.ListN.{length, take, drop, length-drop}
use lib.Seq.{take-length}
use Rattle.std.specs.Prelude.{Option, None, Some, Ok}
use Rattle.districts.specs.Register.{Register}
use Rattle.districts.specs.Lent.{Lists, formed, means, written}
use Rattle.tally.specs.declared.Tally.{Tally}
use Rattle.history.specs.Histories.{Call}
use Rattle.records.specs.Layout.{Front, whole, more, broken, front}
use Rattle.records.specs.Decoding.{taken_for, written_for}
use Rattle.records.proofs.Sizes.{Size, whole-size}
use Rattle.wording.specs.Text.{Laid}
use Rattle.wording.specs.Lines as Lines
use Rattle.wording.specs.Lines.{Kind, outline, Said, ok, line, room, said_of}
use Rattle.wording.proofs.Written.{line-short}
use Rattle.stream.specs.declared.advancing.Advanced.{Advanced}
use Rattle.stream.specs.Replies.{replied, kind_of}
use Rattle.stream.specs.Advancing.{Told, answered, unfinished, unreadable, told_for, LeftFor, tallied_for, AdvancedBy}
use Rattle.stream.specs.declared.printing.Progress.{Progress}
use Rattle.stream.specs.Printing.{numbers, TurnedBy}
use Rattle.stream.proofs.Steps.{stepped, desk-next}

-- ---- what was told says what was there

abbrev kind_in : Told → Kind
kind_in (answered k s) = k
kind_in unfinished = outline
kind_in unreadable = outline

abbrev said_in : Told → Said
said_in (answered k s) = s
said_in unfinished = ok
said_in unreadable = ok

abbrev place_of : Told → ℕ
place_of (answered k s) = 0
place_of unfinished = 1
place_of unreadable = 2

pub record Whole (x : Front) (k : Kind) (s : Said) (well_formed : Bool) (g : Register) (t : Tally) : Type 0 where
  pub call : Call
  pub size : ℕ
  pub is : x ≡ whole call size
  pub kind : k ≡ kind_of call
  pub said : s ≡ replied well_formed g t call

told-whole : (x : Front) (k : Kind) (s : Said) (well_formed : Bool) (g : Register) (t : Tally) → answered k s ≡ told_for x well_formed g t → Whole x k s well_formed g t
told-whole (whole c n) k s well_formed g t e = record { call = c; size = n; is = refl; kind = ap kind_in e; said = ap said_in e }
told-whole more k s well_formed g t e = absurd (let f : ⊥ = omega (arith, ap place_of e) in f)
told-whole broken k s well_formed g t e = absurd (let f : ⊥ = omega (arith, ap place_of e) in f)

-- ---- the turn

module _ (bytes : List ℕ) (p : Progress) (before after : Lists) (t t' : Tally) (o : Option Advanced) (a : Advanced) (some : o ≡ Some a) (lent lent' : List ℤ)
    (seen : AdvancedBy (Ok o) (front (take (length bytes - p.at) (drop p.at bytes))) t t' lent lent' before after) where
  abbrev rest : List ℕ
  rest = drop p.at bytes

  abbrev kind : Kind
  kind = Lines.kind_of a.kind

  abbrev said : Said
  said = said_of a.said

  all_rest : take (length bytes - p.at) rest ≡ rest
  all_rest = ap (λ n. take n rest) (sym (length-drop p.at bytes)) ∙ take-length rest

  by : AdvancedBy (Ok (Some a)) (front rest) t t' lent lent' before after
  by = transport (λ i. AdvancedBy (Ok (some i)) (front (all_rest i)) t t' lent lent' before after) seen

  there : Whole (front rest) kind said (formed before) (means before) t
  there = told-whole (front rest) kind said _ _ _ by.told

  size : Size rest there.size
  size = whole-size rest there.call there.size there.is

  taken : a.taken ≡ there.size
  taken = by.taken ∙ ap taken_for there.is

  -- the record is there
  pub next-there : p.at ≤ length bytes → p.at + a.taken ≤ length bytes
  next-there h = omega (arith, h, taken, size.there, length-drop p.at bytes)

  -- a record has bytes, so the numbers have not come to their end
  pub next-countable : p.records + (length bytes - p.at) < numbers → p.records + 1 < numbers
  next-countable h = omega (arith, h, size.least, size.there, length-drop p.at bytes)

  pub goes_on : (q : Progress) (to to' : List ℕ) → formed before ≡ true → p.filled + room ≤ length to → q.at ≡ p.at + a.taken → q.records ≡ p.records + 1
      → Laid q.filled p.filled (line p.records kind said) to to' → TurnedBy bytes p before t lent to None q after t' lent' to'
  goes_on q to to' good places at n laid =
      let c = there.call in
      let left = subst (λ x. LeftFor x before after) there.is by.left in
      let tallies = by.tally ∙ ap (λ x. tallied_for x (formed before) (means before) t) there.is in
      let reply = there.said ∙ ap (λ b. replied b (means before) t c) good in
      record {
        call = c;
        size = there.size;
        is = there.is;
        at = at ∙ ap (λ m. p.at + m) taken;
        roomy = omega (arith, places);
        form = (stepped c before after good left).0;
        desk = desk-next c t t' before after good left tallies;
        records = n;
        coordinates = by.coordinates ∙ ap (λ x. written (written_for x) lent) there.is;
        text = subst (λ x. Laid q.filled p.filled x to to') (λ i. line p.records (there.kind i) (reply i)) laid;
        fits = omega (arith, places, laid.behind, line-short p.records kind said);
      }
