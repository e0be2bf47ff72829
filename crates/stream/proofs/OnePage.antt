-- No second outcome fits the promise of printing: the records that are done are told by the bytes and the lent list. Assumes nothing.
use Prim.Native.Nat.{ℕ, ◌+◌, ◌-◌, ◌≤◌}
use native.Mathlib.Nat.{zero-add}
use native.Mathlib.Omega.{arith}
use mathlib.Core.Path.{◌≡◌, refl, sym, ap, subst, ◌∙◌}
use mathlib.Core.List.{List, [], ◌∷◌, ◌++◌}
use lib.IntN.{ℤ}
use lib.ListN.{length, drop, length-drop, length-append}
use Rattle.districts.specs.Lent.{Lists, formed, means}
use Rattle.tally.specs.declared.Tally.{Tally}
use Rattle.history.specs.Histories.{Call, merging}
use Rattle.records.specs.Layout.{Front, whole, more, broken, front}
use Rattle.records.specs.Decoding.{taken_for}
use Rattle.wording.specs.Text.{laid}
use Rattle.wording.specs.Lines.{room}
use Rattle.stream.specs.declared.printing.Stop.{Stop}
use Rattle.stream.specs.declared.printing.Stop.TheVariants.{Full, More, Broken}
use Rattle.stream.specs.declared.printing.Page.{Page}
use Rattle.stream.specs.Streams.{Starts}
use Rattle.stream.specs.Desks.{Desk, desk_of, next, through, line_of, lines_from}
use Rattle.stream.specs.Printing.{Stopped, Roomy, noted, Printed}

-- ---- what stands at the front

abbrev place_of : Front → ℕ
place_of (whole c n) = 0
place_of more = 1
place_of broken = 2

abbrev call_in : Front → Call
call_in (whole c n) = c
call_in more = merging 0 0 0 0 0
call_in broken = merging 0 0 0 0 0

-- where printing stopped there is no record that it could have done
idle : (s : Stop) (places : ℕ) (rest : List ℕ) (c : Call) (n : ℕ) → Stopped s places rest → room ≤ places → front rest ≡ whole c n → ⊥
idle Full places rest c n why h e = omega (arith, why, h)
idle More places rest c n why h e = omega (arith, ap place_of (sym why.1 ∙ e))
idle Broken places rest c n why h e = omega (arith, ap place_of (sym why.1 ∙ e))

one-reason : (s t : Stop) (places : ℕ) (rest : List ℕ) → Stopped s places rest → Stopped t places rest → s ≡ t
one-reason Full Full places rest p q = refl
one-reason Full More places rest p q = absurd (let f : ⊥ = omega (arith, p, q.0) in f)
one-reason Full Broken places rest p q = absurd (let f : ⊥ = omega (arith, p, q.0) in f)
one-reason More Full places rest p q = absurd (let f : ⊥ = omega (arith, q, p.0) in f)
one-reason More More places rest p q = refl
one-reason More Broken places rest p q = absurd (let f : ⊥ = omega (arith, ap place_of (sym p.1 ∙ q.1)) in f)
one-reason Broken Full places rest p q = absurd (let f : ⊥ = omega (arith, q, p.0) in f)
one-reason Broken More places rest p q = absurd (let f : ⊥ = omega (arith, ap place_of (sym p.1 ∙ q.1)) in f)
one-reason Broken Broken places rest p q = refl

-- ---- the calls that are done

-- all that the promise says of the calls that were done where printing stopped
pub record Stood (bytes : List ℕ) (places n : ℕ) (k : Desk) (cs : List Call) (rest : List ℕ) (s : Stop) : Type 0 where
  pub starts : Starts bytes cs rest
  pub roomy : Roomy places n k cs
  pub why : Stopped s (places - length (lines_from n k cs)) rest

-- the same behind the first call
behind : (bytes : List ℕ) (places n : ℕ) (k : Desk) (c : Call) (cs : List Call) (rest : List ℕ) (s : Stop) (t : Stood bytes places n k (c ∷ cs) rest s) (m : ℕ) → taken_for (front bytes) ≡ m → (d : Call) → c ≡ d
    → Stood (drop m bytes) (places - length (line_of n k d)) (n + 1) (next k d) cs rest s
unfolding Starts Roomy lines_from
behind bytes places n k c cs rest s t m size d same =
    subst (λ x. Stood (drop m bytes) (places - length (line_of n k x)) (n + 1) (next k x) cs rest s) same
    (record {
      starts = subst (λ j. Starts (drop j bytes) cs rest) (sym (ap taken_for t.starts.1) ∙ size) t.starts.2;
      roomy = t.roomy.1;
      why = subst (λ j. Stopped s j rest) fewer t.why;
    })
  where
    fewer : places - length (line_of n k c ++ lines_from (n + 1) (next k c) cs) ≡ places - length (line_of n k c) - length (lines_from (n + 1) (next k c) cs)
    fewer = omega (arith, length-append (line_of n k c) (lines_from (n + 1) (next k c) cs))

-- a record that one has done, and the other not, can't be
undone : (bytes : List ℕ) (places n : ℕ) (k : Desk) (c : Call) (cs : List Call) (rest rest' : List ℕ) (s s' : Stop) → Stood bytes places n k [] rest s → Stood bytes places n k (c ∷ cs) rest' s' → ⊥
unfolding Starts Roomy lines_from
undone bytes places n k c cs rest rest' s s' t u = idle s (places - 0) rest c u.starts.0 t.why (omega (arith, u.roomy.0)) (sym (ap front t.starts) ∙ u.starts.1)

one-start : (bytes : List ℕ) (places n : ℕ) (k : Desk) (cs ds : List Call) (rest rest' : List ℕ) (s s' : Stop) → Stood bytes places n k cs rest s → Stood bytes places n k ds rest' s' → (cs ≡ ds) × (rest ≡ rest')
unfolding Starts
one-start bytes places n k [] [] rest rest' s s' t u = (refl, sym t.starts ∙ u.starts)
one-start bytes places n k [] (d ∷ ds) rest rest' s s' t u = absurd (undone bytes places n k d ds rest rest' s s' t u)
one-start bytes places n k (c ∷ cs) [] rest rest' s s' t u = absurd (undone bytes places n k c cs rest' rest s' s u t)
one-start bytes places n k (c ∷ cs) (d ∷ ds) rest rest' s s' t u =
    let m = taken_for (front bytes) in
    let same : c ≡ d = sym (ap call_in t.starts.1) ∙ ap call_in u.starts.1 in
    let again = one-start (drop m bytes) (places - length (line_of n k d)) (n + 1) (next k d) cs ds rest rest' s s' (behind bytes places n k c cs rest s t m refl d same) (behind bytes places n k d ds rest' s' u m refl d refl) in
    ((λ i. same i ∷ again.0 i), again.1)

-- ---- the page

-- two outcomes for the same bytes, desk, number and lent lists
pub record SamePage (p q : Page) (l m : Lists) (t u : Tally) (list list' : List ℤ) (to to' : List ℕ) : Type 0 where
  pub at : p.progress.at ≡ q.progress.at
  pub filled : p.progress.filled ≡ q.progress.filled
  pub records : p.progress.records ≡ q.progress.records
  pub tally : t ≡ u
  pub stop : p.stop ≡ q.stop
  pub meaning : means l ≡ means m
  pub form : formed l ≡ formed m
  pub coordinates : list ≡ list'
  pub text : to ≡ to'

-- all that `print` promises of the page that it answers
abbrev pub Paged : List ℕ → Desk → ℕ → List ℤ → List ℕ → Page → Lists → Tally → List ℤ → List ℕ → Type 0
Paged bytes k n list to p l t list' to' = Printed bytes k n list to p.progress l t list' to' × Stopped p.stop (length to - p.progress.filled) (drop p.progress.at bytes)

module _ (bytes : List ℕ) (k : Desk) (n : ℕ) (list : List ℤ) (to : List ℕ) where
  stood : (p : Page) (l : Lists) (t : Tally) (list' : List ℤ) (to' : List ℕ) (s : Paged bytes k n list to p l t list' to') → Stood bytes (length to) n k s.0.done (drop p.progress.at bytes) p.stop
  stood p l t list' to' s = record { starts = s.0.starts; roomy = s.0.roomy; why = subst (λ f. Stopped p.stop (length to - f) (drop p.progress.at bytes)) (s.0.text.behind ∙ zero-add _) s.1 }

  pub one-page : (p q : Page) (l m : Lists) (t u : Tally) (list₁ list₂ : List ℤ) (to₁ to₂ : List ℕ) → Paged bytes k n list to p l t list₁ to₁ → Paged bytes k n list to q m u list₂ to₂ → SamePage p q l m t u list₁ list₂ to₁ to₂
  one-page p q l m t u list₁ list₂ to₁ to₂ first second =
      let both = one-start bytes (length to) n k first.0.done second.0.done _ _ p.stop q.stop (stood p l t list₁ to₁ first) (stood q m u list₂ to₂ second) in
      let a = first.0 in
      let b = second.0 in
      let done : a.done ≡ b.done = both.0 in
      let places : p.progress.filled ≡ q.progress.filled = a.text.behind ∙ ap (λ cs. 0 + length (lines_from n k cs)) done ∙ sym b.text.behind in
      let desks : desk_of l t ≡ desk_of m u = a.desk ∙ ap (through k) done ∙ sym b.desk in
      let p-stop = subst (λ f. Stopped p.stop (length to - f) (drop p.progress.at bytes)) places first.1 in
      record {
        at = omega (arith, ap length both.1, length-drop p.progress.at bytes, length-drop q.progress.at bytes, a.there, b.there);
        filled = places;
        records = a.records ∙ ap (λ cs. n + length cs) done ∙ sym b.records;
        tally = ap (λ (d : Desk). d.tally) desks;
        stop = one-reason p.stop q.stop (length to - q.progress.filled) (drop q.progress.at bytes) (subst (Stopped p.stop (length to - q.progress.filled)) both.1 p-stop) second.1;
        meaning = ap (λ (d : Desk). d.register) desks;
        form = a.form ∙ sym b.form;
        coordinates = a.coordinates ∙ ap (λ cs. noted cs list) done ∙ sym b.coordinates;
        text = a.text.left ∙ ap (λ cs. laid 0 (lines_from n k cs) to) done ∙ sym b.text.left;
      }
