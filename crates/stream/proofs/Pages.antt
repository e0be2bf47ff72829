-- Printing, turn by turn: the records that are done are the first calls of the bytes, and their lines stand in order. Assumes nothing.
use Prim.Native.Nat.{ℕ, zero-le, suc, ◌+◌, ◌-◌, ◌≤◌, ◌<◌}
use native.Mathlib.Omega.{arith}
use mathlib.Core.Path.{◌≡◌, refl, sym, ap, subst, ◌∙◌}
use mathlib.Core.Bool.{true}
use mathlib.Core.List.{List, [], ◌∷◌, ◌++◌, append_assoc, append-nil}
use lib.IntN.{ℤ}
use lib.ListN.{length, drop, length-drop, length-append}
use lib.Seq.{drop-drop}
use Rattle.districts.specs.Lent.{Lists, formed, written}
use Rattle.tally.specs.declared.Tally.{Tally}
use Rattle.history.specs.Histories.{Call}
use Rattle.records.specs.Decoding.{pairs_of}
use Rattle.records.proofs.Sizes.{Size, whole-size}
use Rattle.wording.specs.Lines.{room}
use Rattle.wording.proofs.Laying.{joined, laid_as}
use Rattle.stream.specs.declared.printing.Progress.{Progress}
use Rattle.stream.specs.Streams.{Starts}
use Rattle.stream.specs.Desks.{Desk, desk_of, next, through, line_of, lines_from}
use Rattle.stream.specs.Printing.{Roomy, noted, Printed, numbers, Ready, Wrote}
use Rattle.stream.proofs.Starting.{starts_more, starts-one, starts-few}

-- ---- calls and lines, one list behind another

pub through-more : (k : Desk) (cs ds : List Call) → through k (cs ++ ds) ≡ through (through k cs) ds
unfolding through
through-more k [] ds = refl
through-more k (c ∷ cs) ds = through-more (next k c) cs ds

pub lines_more : (n : ℕ) (k : Desk) (cs ds : List Call) → lines_from n k (cs ++ ds) ≡ lines_from n k cs ++ lines_from (n + length cs) (through k cs) ds
unfolding through lines_from
lines_more n k [] ds = let e : n ≡ n + 0 = omega arith in ap (λ m. lines_from m k ds) e
lines_more n k (c ∷ cs) ds =
    let e : n + 1 + length cs ≡ n + suc (length cs) = omega arith in
    let first = line_of n k c in
    ap (λ l. first ++ l) (lines_more (n + 1) (next k c) cs ds ∙ ap (λ m. lines_from (n + 1) (next k c) cs ++ lines_from m (through (next k c) cs) ds) e)
    ∙ sym (append_assoc first (lines_from (n + 1) (next k c) cs) (lines_from (n + suc (length cs)) (through (next k c) cs) ds))

-- the line of one call more
one-line-more : (n : ℕ) (k : Desk) (cs : List Call) (c : Call) → lines_from n k (cs ++ c ∷ []) ≡ lines_from n k cs ++ line_of (n + length cs) (through k cs) c
unfolding lines_from
one-line-more n k cs c = lines_more n k cs (c ∷ []) ∙ ap (λ l. lines_from n k cs ++ l) (append-nil _)

-- ---- room for one line more, and the coordinates of one call more

roomy-more : (places n : ℕ) (k : Desk) (cs : List Call) (c : Call) → Roomy places n k cs → room ≤ places - length (lines_from n k cs) → Roomy places n k (cs ++ c ∷ [])
unfolding Roomy lines_from
roomy-more places n k [] c h left = (omega (arith, left), tt)
roomy-more places n k (d ∷ cs) c h left =
    (h.0, roomy-more (places - length (line_of n k d)) (n + 1) (next k d) cs c h.1 (omega (arith, left, length-append (line_of n k d) (lines_from (n + 1) (next k d) cs))))

noted_more : (cs : List Call) (c : Call) (list : List ℤ) → noted (cs ++ c ∷ []) list ≡ written (pairs_of c) (noted cs list)
unfolding noted
noted_more [] c list = refl
noted_more (d ∷ cs) c list = noted_more cs c (written (pairs_of d) list)

-- ---- before the first turn

pub printed-none : (bytes : List ℕ) (t : Tally) (n : ℕ) (list : List ℤ) (to : List ℕ) (l : Lists) → formed l ≡ true → Printed bytes (desk_of l t) n list to (record { at = 0; filled = 0; records = n }) l t list to
unfolding through lines_from Starts Roomy noted
printed-none bytes t n list to l good = record {
  done = [];
  starts = refl;
  there = omega arith;
  roomy = tt;
  form = good;
  desk = refl;
  records = omega arith;
  coordinates = refl;
  text = record { behind = refl; left = refl };
  fits = omega arith;
}

-- ---- a turn

module _ (bytes : List ℕ) (k : Desk) (n : ℕ) (list : List ℤ) (to : List ℕ) (p : Progress) (l : Lists) (t : Tally) (list' : List ℤ) (now : List ℕ) (so_far : Printed bytes k n list to p l t list' now) where
  abbrev rest : List ℕ
  rest = drop p.at bytes

  -- the calls that are done have bytes
  pub printed-few : length so_far.done ≤ p.at
  printed-few = omega (arith, starts-few bytes rest so_far.done so_far.starts, length-drop p.at bytes, so_far.there)

  pub ready : length now ≡ length to → n + length bytes < numbers → Ready bytes p now
  ready same few = record {
    there = so_far.there;
    fits = omega (arith, so_far.fits, same);
    long = omega (arith, few);
    countable = omega (arith, few, so_far.records, printed-few, so_far.there);
  }

  module _ (q : Progress) (l' : Lists) (t' : Tally) (list'' : List ℤ) (now' : List ℕ) (same : length now ≡ length to) where
    -- one record more
    pub printed-more : Wrote bytes p l t list' now q l' t' list'' now' → Printed bytes k n list to q l' t' list'' now'
    unfolding through
    printed-more w = record {
      done = so_far.done ++ w.call ∷ [];
      starts = starts_more bytes rest (drop q.at bytes) so_far.done (w.call ∷ []) so_far.starts (subst (Starts rest (w.call ∷ [])) (sym behind) (starts-one rest w.call w.size w.is));
      there = omega (arith, w.at, size.there, length-drop p.at bytes, so_far.there);
      roomy = roomy-more (length to) n k so_far.done w.call so_far.roomy (omega (arith, w.roomy, same, so_far.text.behind));
      form = w.form;
      desk = w.desk ∙ ap (λ d. next d w.call) so_far.desk ∙ sym (through-more k so_far.done (w.call ∷ []));
      records = omega (arith, w.records, so_far.records, length-append so_far.done (w.call ∷ []));
      coordinates = w.coordinates ∙ ap (written (pairs_of w.call)) so_far.coordinates ∙ sym (noted_more so_far.done w.call list);
      text = laid_as (sym lines) (joined zero-le so_far.text w.text);
      fits = omega (arith, w.fits, same);
    }
      where
        behind : drop q.at bytes ≡ drop w.size rest
        behind = ap (λ m. drop m bytes) w.at ∙ sym (drop-drop w.size p.at bytes)

        size : Size rest w.size
        size = whole-size rest w.call w.size w.is

        lines : lines_from n k (so_far.done ++ w.call ∷ []) ≡ lines_from n k so_far.done ++ line_of p.records (desk_of l t) w.call
        lines = one-line-more n k so_far.done w.call ∙ (λ i. lines_from n k so_far.done ++ line_of (sym so_far.records i) (sym so_far.desk i) w.call)

    -- a turn goes on in the bytes
    pub onward : Wrote bytes p l t list' now q l' t' list'' now' → p.at < q.at
    onward w = omega (arith, w.at, (whole-size rest w.call w.size w.is).least)
