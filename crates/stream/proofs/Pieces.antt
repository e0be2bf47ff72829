-- What holds after any list of pieces: what was done and written is told by all the bytes that were read, wherever they were divided; demand
-- 3, the register's limits and the tally's sum. Assumes nothing.
use Prim.Native.Nat.{ℕ, ◌+◌, ◌-◌, ◌≤◌, ◌<◌}
use native.Mathlib.Nat.{zero-add}
use native.Mathlib.Omega.{arith}
use native.Mathlib.Decide.{dec_lt}
use mathlib.Core.Path.{◌≡◌, refl, sym, ap, subst, ◌∙◌}
use mathlib.Core.Bool.{true}
use mathlib.Core.List.{List, [], ◌∷◌, ◌++◌, append_assoc, append-nil}
use lib.Dec.{ltb}
use lib.ListN.{length, take, drop, length-append}
use lib.Seq.{take_at}
use borrow.Author.Tests.{lt-ltb}
use Rattle.ring.specs.declared.Point.{Point}
use Rattle.ring.specs.Rings.{Weight, Antisymmetric}
use Rattle.districts.specs.Register.{Register}
use Rattle.districts.specs.Lent.{formed, means}
use Rattle.tally.specs.Tally.{fresh, sum, run, accepted}
use Rattle.tally.proofs.Totals.{sum-counts}
use Rattle.history.specs.Histories.{Call, founding, splitting, merging, reporting, empty, after}
use Rattle.history.specs.Adding.{sum_over, slot_sum, slot_winding, ClearOf}
use Rattle.history.specs.Limits.{Within}
use Rattle.history.proofs.Balanced.{districts-add-up}
use Rattle.history.proofs.Windings.{windings-add-up}
use Rattle.history.proofs.Limits.{within-limits}
use Rattle.records.specs.Layout.{Front, whole, more, broken, front}
use Rattle.records.proofs.Fronts.{front-short}
use Rattle.records.proofs.Longer.{broken-longer}
use Rattle.wording.specs.Text.{Laid}
use Rattle.stream.specs.declared.printing.Stop.{Stop}
use Rattle.stream.specs.declared.printing.Stop.TheVariants.{More, Broken}
use Rattle.stream.specs.Replies.{tallied_by}
use Rattle.stream.specs.Streams.{calls_of, left_of, broken_off, Starts}
use Rattle.stream.specs.Desks.{Desk, desk_of, opening, next, through, answers_from, lines_from, broken_line, last_line, output}
use Rattle.stream.specs.Printing.{Stopped}
use Rattle.stream.specs.Pieces.{Standing, Begins, Piece, Part, Reads, last_of, bytes_of, done_of}
use Rattle.stream.proofs.Unrolling.{Ended, none-taken}
use Rattle.stream.proofs.Starting.{starts_more, starts-longer, starts-calls, starts-left}
use Rattle.stream.proofs.Pages.{through-more, lines_more}

-- ---- the desk's register is the history's, and its tally has counted the answers to the reports

register-after : (k : Desk) (cs : List Call) → (through k cs).register ≡ after k.register cs
unfolding through after
register-after k [] = refl
register-after k (c ∷ cs) = register-after (next k c) cs

tally-after : (k : Desk) (cs : List Call) → (through k cs).tally ≡ run k.tally (answers_from k.register cs)
unfolding through answers_from run tallied_by
tally-after k [] = refl
tally-after k (founding xs ∷ cs) = tally-after (next k (founding xs)) cs
tally-after k (splitting d i j path ∷ cs) = tally-after (next k (splitting d i j path)) cs
tally-after k (merging A a B b m ∷ cs) = tally-after (next k (merging A a B b m)) cs
tally-after k (reporting r p ∷ cs) = tally-after (next k (reporting r p)) cs

-- ---- so far

-- the bytes that were read start with the records done, and what is held is behind them
pub record Since (bytes : List ℕ) (s : Standing) : Type 0 where
  pub done : List Call
  pub starts : Starts bytes done s.held
  pub form : formed s.lists ≡ true
  pub desk : desk_of s.lists s.tally ≡ through opening done
  pub records : s.records ≡ length done
  pub written : s.written ≡ lines_from 0 opening done
  pub places : ℕ
  pub stopped : Stopped s.stop places s.held

since_none : (s : Standing) → Begins s → Since [] s
unfolding Starts through lines_from
since_none s b = record {
  done = [];
  starts = sym b.held;
  form = b.lists.0;
  desk = λ i. record { register = b.lists.1 i; tally = b.tally i };
  records = b.records;
  written = b.written;
  places = 160;
  stopped = subst (λ (x : Stop). Stopped x 160 s.held) (sym b.stop) (omega arith, front-short s.held (omega (arith, ap length b.held)));
}

-- the first places of a list hold the text that was laid there
laid-first : (r : ℕ) (text to to' : List ℕ) → Laid r 0 text to to' → take r to' ≡ text
laid-first r text to to' l = ap (take r) l.left ∙ take_at text (drop (0 + length text) to) r (sym (l.behind ∙ zero-add (length text)))

since-more : (bytes : List ℕ) (s : Standing) (piece : List ℕ) (e : Standing) → Since bytes s → Piece s piece e → Since (bytes ++ piece) e
since-more bytes s piece e so_far p =
    let printed = p.printed in
    let from : Starts (s.held ++ piece) printed.done e.held = subst (Starts (s.held ++ piece) printed.done) (sym p.held) printed.starts in
    record {
      done = so_far.done ++ printed.done;
      starts = starts_more (bytes ++ piece) (s.held ++ piece) e.held so_far.done printed.done (starts-longer bytes s.held piece so_far.done so_far.starts) from;
      form = printed.form;
      desk = printed.desk ∙ ap (λ d. through d printed.done) so_far.desk ∙ sym (through-more opening so_far.done printed.done);
      records = omega (arith, p.records, printed.records, so_far.records, length-append so_far.done printed.done);
      written = p.written ∙ lines;
      places = length p.to - p.page.progress.filled;
      stopped = subst (λ (x : Stop). Stopped x (length p.to - p.page.progress.filled) e.held) (sym p.stop) (subst (Stopped p.page.stop (length p.to - p.page.progress.filled)) (sym p.held) p.ended);
    }
  where
    lines : s.written ++ take p.page.progress.filled p.to' ≡ lines_from 0 opening (so_far.done ++ p.printed.done)
    lines =
        (λ i. so_far.written i ++ laid-first _ _ _ _ p.printed.text i)
        ∙ (λ i. lines_from 0 opening so_far.done ++ lines_from ((so_far.records ∙ sym (zero-add _)) i) (so_far.desk i) p.printed.done)
        ∙ sym (lines_more 0 opening so_far.done p.printed.done)

since-all : (bytes : List ℕ) (s : Standing) (ps : List Part) → Since bytes s → Reads s ps → Since (bytes ++ bytes_of ps) (last_of s ps)
unfolding Reads last_of bytes_of
since-all bytes s [] so_far r = subst (λ b. Since b s) (sym (append-nil bytes)) so_far
since-all bytes s (p ∷ ps) so_far r =
    subst (λ b. Since b (last_of p.left ps)) (append_assoc bytes p.bytes (bytes_of ps)) (since-all (bytes ++ p.bytes) p.left ps (since-more bytes s p.bytes p.left so_far r.0) r.1)

abbrev is_broken : Front → ℕ
is_broken (whole c n) = 0
is_broken more = 0
is_broken broken = 1

-- a broken record has bytes
some-there : (bytes : List ℕ) → front bytes ≡ broken → 0 < length bytes
some-there bytes e = elim (dec_lt 0 (length bytes)) [
  | yes some ↦ some
  | no none ↦ absurd (let f : ⊥ = omega (arith, ap is_broken (sym (front-short bytes (omega (arith, none))) ∙ e)) in f)
]

-- ---- what follows from it

module _ (bytes : List ℕ) (s : Standing) (so_far : Since bytes s) where
  -- whatever is read behind, the calls that are done come first
  calls-with : (rest : List ℕ) → calls_of (bytes ++ rest) ≡ so_far.done ++ calls_of (s.held ++ rest)
  calls-with rest = starts-calls (bytes ++ rest) (s.held ++ rest) so_far.done (starts-longer bytes s.held rest so_far.done so_far.starts)

  left-with : (rest : List ℕ) → left_of (bytes ++ rest) ≡ left_of (s.held ++ rest)
  left-with rest = starts-left (bytes ++ rest) (s.held ++ rest) so_far.done (starts-longer bytes s.held rest so_far.done so_far.starts)

  is-done : so_far.done ≡ done_of bytes s
  is-done = sym (take_at so_far.done (calls_of s.held) s.records (sym so_far.records)) ∙ ap (take s.records) (sym (starts-calls bytes s.held so_far.done so_far.starts))

  -- where no record stands at the front of what is held, nor can come there, all is written but the last lines
  closes : (rest : List ℕ) → Ended (s.held ++ rest) → output (bytes ++ rest) ≡ s.written ++ broken_line (ltb 0 (length (s.held ++ rest))) s.records ++ last_line s.records s.tally
  unfolding output
  closes rest ended =
      let calls : calls_of (bytes ++ rest) ≡ so_far.done = calls-with rest ∙ ap (λ cs. so_far.done ++ cs) ended.calls ∙ append-nil so_far.done in
      let left : left_of (bytes ++ rest) ≡ s.held ++ rest = left-with rest ∙ ended.left in
      (λ i. lines_from 0 opening (calls i) ++ broken_line (ltb 0 (length (left i))) (length (calls i)) ++ last_line (length (calls i)) (through opening (calls i)).tally)
      ∙ (λ i. sym so_far.written i ++ broken_line (ltb 0 (length (s.held ++ rest))) (sym so_far.records i) ++ last_line (sym so_far.records i) (sym so_far.desk i).tally)

  begins-with : (rest : List ℕ) → (text : List ℕ) × (output (bytes ++ rest) ≡ s.written ++ text)
  unfolding output
  begins-with rest =
      let all = calls_of (bytes ++ rest) in
      let later = lines_from (0 + length so_far.done) (through opening so_far.done) (calls_of (s.held ++ rest)) in
      let cut = broken_line (broken_off (bytes ++ rest)) (length all) in
      let end = last_line (length all) (through opening all).tally in
      let lines : lines_from 0 opening all ≡ s.written ++ later = ap (lines_from 0 opening) (calls-with rest) ∙ lines_more 0 opening so_far.done (calls_of (s.held ++ rest)) ∙ ap (λ w. w ++ later) (sym so_far.written) in
      (later ++ cut ++ end, ap (λ l. l ++ cut ++ end) lines ∙ ap (λ l. l ++ end) (append_assoc s.written later cut) ∙ append_assoc s.written (later ++ cut) end)

  stops_at : (x : Stop) → s.stop ≡ x → Stopped x so_far.places s.held
  stops_at x e = subst (λ (y : Stop). Stopped y so_far.places s.held) e so_far.stopped

-- ---- after any list of pieces

module _ (s : Standing) (ps : List Part) (begin : Begins s) (reads : Reads s ps) where
  abbrev bytes : List ℕ
  bytes = bytes_of ps

  abbrev e : Standing
  e = last_of s ps

  abbrev grouped : Register
  grouped = means e.lists

  so_far : Since bytes e
  so_far = since-all [] s ps (since_none s begin) reads

  -- so many records are done, the first of those that the bytes hold
  pub pieces-records : (e.records ≡ length (done_of bytes e)) × (e.records ≤ length (calls_of bytes))
  pieces-records =
      let first = starts-calls bytes e.held so_far.done so_far.starts in
      (so_far.records ∙ ap length (is-done bytes e so_far), omega (arith, so_far.records, ap length first, length-append so_far.done (calls_of e.held)))

  -- the register and the tally are what they make of the opening
  pub pieces-desk : (formed e.lists ≡ true) × (desk_of e.lists e.tally ≡ through opening (done_of bytes e))
  pieces-desk = (so_far.form, so_far.desk ∙ ap (through opening) (is-done bytes e so_far))

  -- and what was written is their lines
  pub pieces-written : e.written ≡ lines_from 0 opening (done_of bytes e)
  pieces-written = so_far.written ∙ ap (lines_from 0 opening) (is-done bytes e so_far)

  -- at any time what was written is a beginning of the output of the whole stream, whatever is still to come
  pub pieces-begin : (rest : List ℕ) → (text : List ℕ) × (output (bytes ++ rest) ≡ e.written ++ text)
  pieces-begin rest = begins-with bytes e so_far rest

  -- at the end of the input, where what is left is the beginning of a record or nothing, the last lines make it the output
  pub pieces-output : e.stop ≡ More → e.written ++ broken_line (ltb 0 (length e.held)) e.records ++ last_line e.records e.tally ≡ output bytes
  pieces-output stop =
      let none = append-nil e.held in
      let ended : Ended (e.held ++ []) = subst Ended (sym none) (none-taken e.held more (stops_at bytes e so_far More stop).1 refl) in
      sym (ap output (sym (append-nil bytes)) ∙ closes bytes e so_far [] ended ∙ ap (λ h. e.written ++ broken_line (ltb 0 (length h)) e.records ++ last_line e.records e.tally) none)

  -- at a broken record they do, whatever stands behind it
  pub pieces-broken : e.stop ≡ Broken → (rest : List ℕ) → e.written ++ broken_line true e.records ++ last_line e.records e.tally ≡ output (bytes ++ rest)
  pieces-broken stop rest =
      let there = (stops_at bytes e so_far Broken stop).1 in
      let ended = none-taken (e.held ++ rest) broken (broken-longer e.held rest there) refl in
      let some : 0 < length (e.held ++ rest) = some-there (e.held ++ rest) (broken-longer e.held rest there) in
      sym (closes bytes e so_far rest ended ∙ ap (λ b. e.written ++ broken_line b e.records ++ last_line e.records e.tally) (lt-ltb 0 _ some))

  is-after : after empty (done_of bytes e) ≡ grouped
  is-after = sym (ap (λ (k : Desk). k.register) pieces-desk.1 ∙ register-after opening (done_of bytes e))

  -- demand 3: at a point on no edge the winding numbers about all districts in use add up to that about the outline
  pub pieces-windings : (R : Point) → ClearOf grouped R → sum_over (slot_winding R) grouped.districts ≡ slot_winding R grouped.outline
  pieces-windings R = subst (λ g. ClearOf g R → sum_over (slot_winding R) g.districts ≡ slot_winding R g.outline) is-after (windings-add-up (done_of bytes e) R)

  -- and so do the sums of any weight of edges that changes its sign with their direction, at every point
  pub pieces-sums : (f : Weight) → Antisymmetric f → sum_over (slot_sum f) grouped.districts ≡ slot_sum f grouped.outline
  pieces-sums f a = subst (λ g. sum_over (slot_sum f) g.districts ≡ slot_sum f g.outline) is-after (districts-add-up f a (done_of bytes e))

  pub pieces-limits : Within grouped
  pieces-limits = subst Within is-after (within-limits (done_of bytes e))

  -- all counts together are the reports that were not refused
  pub pieces-counted : sum e.tally ≡ accepted fresh (answers_from empty (done_of bytes e))
  pieces-counted = ap sum (ap (λ (k : Desk). k.tally) pieces-desk.1 ∙ tally-after opening (done_of bytes e)) ∙ sum-counts (answers_from empty (done_of bytes e))
