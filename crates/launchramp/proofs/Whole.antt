-- What the program ends with, of all the bytes that it read: the register and the tally of their records; and what it printed, the last lines
-- behind it, is their output. Assumes nothing.
use Prim.Native.Nat.{ℕ}
use mathlib.Core.Path.{◌≡◌, refl, sym, ap, subst, ◌∙◌}
use mathlib.Core.Bool.{Bool, true, false}
use mathlib.Core.List.{List, [], ◌++◌, append_assoc, append-nil}
use lib.Dec.{ltb}
use lib.ListN.{length, take}
use borrow.Author.Tests.{lt-ltb}
use Rattle.std.specs.Prelude.{Some}
use Rattle.std.proofs.Common.{inl, inr}
use Rattle.districts.specs.Lent.{Lists}
use Rattle.tally.specs.declared.Tally.{Tally}
use Rattle.history.specs.Turns.{Fresh}
use Rattle.stream.specs.declared.printing.Stop.TheVariants as Stops
use Rattle.stream.specs.Streams.{calls_of}
use Rattle.stream.specs.Desks.{desk_of, opening, through, broken_line, last_line, output}
use Rattle.stream.specs.Pieces.{Standing, Begins, last_of, bytes_of}
use Rattle.stream.proofs.Pieces.{pieces-desk, pieces-begin, pieces-output, pieces-broken}
use Rattle.launchramp.specs.declared.Reading.{Reading}
use Rattle.launchramp.specs.declared.Ending.{Ending}
use Rattle.launchramp.specs.declared.Ending.TheVariants.{Whole, Broken, Failed}
use Rattle.launchramp.specs.Held.{Ends, starting, Went, last_text}

begins : (l : Lists) → Fresh l → Begins (starting l)
begins l f = record { lists = f; tally = refl; records = refl; held = refl; stop = refl; written = refl }

module _ (l : Lists) (d : Reading) (input : List ℕ) (m : Lists) (u : Tally) (f : Fresh l) (w : Went l d input m u) where
  abbrev s : Standing
  s = last_of (starting l) w.parts

  abbrev bytes : List ℕ
  bytes = bytes_of w.parts

  abbrev since : List ℕ
  since = w.stands.since

  pub went-desk : desk_of m u ≡ through opening (take d.records (calls_of bytes))
  went-desk =
      (λ i. desk_of (sym w.stands.lists i) (sym w.stands.tally i))
      ∙ (pieces-desk (starting l) w.parts (begins l f) w.reads).1
      ∙ (λ i. through opening (take (w.stands.records i) (calls_of bytes)))

  -- the last lines are of the records that are done, and of their tally
  closing : (cut : Bool) → s.written ++ (broken_line cut d.records ++ last_line d.records u) ≡ s.written ++ broken_line cut s.records ++ last_line s.records s.tally
  closing cut =
      (λ i. s.written ++ (broken_line cut (sym w.stands.records i) ++ last_line (sym w.stands.records i) (sym w.stands.tally i)))
      ∙ sym (append_assoc s.written (broken_line cut s.records) (last_line s.records s.tally))

  -- at the end of the input, where a cut record is left or nothing
  at-end : (cut : Bool) → s.stop ≡ Stops.More → since ≡ [] → ltb 0 (length s.held) ≡ cut → s.written ++ (broken_line cut d.records ++ last_line d.records u) ≡ output (bytes ++ since)
  at-end cut stop none left =
      closing cut
      ∙ ap (λ b. s.written ++ broken_line b s.records ++ last_line s.records s.tally) (sym left)
      ∙ pieces-output (starting l) w.parts (begins l f) w.reads stop
      ∙ ap output (sym (append-nil bytes) ∙ ap (λ x. bytes ++ x) (sym none))

  say : (why : Ending) → ¬ (why ≡ Failed) → Ends (Some why) s.stop s.held since → s.written ++ last_text (Some why) d.records u ≡ output (bytes ++ since)
  say Whole fine (stop, none, nothing) = at-end false stop none (ap (λ h. ltb 0 (length h)) nothing)
  say Broken fine (inl (stop, none, some)) = at-end true stop none (lt-ltb 0 _ some)
  say Broken fine (inr stop) = closing true ∙ pieces-broken (starting l) w.parts (begins l f) w.reads stop since
  say Failed fine ends = absurd (fine refl)

  -- where the reading came to its end and no read or write failed, what was written and the last lines are the output of all that was read
  pub went-output : (why : Ending) → d.ended ≡ Some why → ¬ (why ≡ Failed) → s.written ++ last_text d.ended d.records u ≡ output (bytes ++ since)
  went-output why is fine =
      subst (λ e. s.written ++ last_text e d.records u ≡ output (bytes ++ since)) (sym is) (say why fine (subst (λ e. Ends e s.stop s.held since) is w.stands.ended))

  -- whatever failed, what was handed to be written is a beginning of the output of all that was read, whatever stands behind it
  pub went-begin : (rest : List ℕ) → (text : List ℕ) × (output (bytes ++ since ++ rest) ≡ s.written ++ text)
  went-begin rest = subst (λ b. (text : List ℕ) × (output b ≡ s.written ++ text)) (sym (append_assoc bytes since rest)) (pieces-begin (starting l) w.parts (begins l f) w.reads (since ++ rest))

  -- and nothing follows it: no line of a broken record, no end line
  pub went-failed : d.ended ≡ Some Failed → last_text d.ended d.records u ≡ []
  went-failed failed = ap (λ e. last_text e d.records u) failed
