-- The bytes that a buffer keeps when it is filled anew, what printing takes of them, and the piece that a turn is. Assumes nothing.
use Prim.Native.Nat.{ℕ, ◌+◌, ◌-◌, ◌≤◌}
use native.Mathlib.Omega.{arith}
use mathlib.Core.Path.{◌≡◌, refl, sym, ap, subst, ◌∙◌}
use mathlib.Core.List.{List, [], ◌∷◌, ◌++◌}
use lib.IntN.{ℤ}
use lib.ListN.{length, take, drop, length-drop}
use lib.Seq.{take_at, take-add, drop_at, drop-drop, length-take-le, paste}
use Rattle.std.specs.Prelude.{None}
use Rattle.districts.specs.Lent.{Lists}
use Rattle.tally.specs.declared.Tally.{Tally}
use Rattle.tally.specs.Tally.{fresh}
use Rattle.stream.specs.declared.printing.Page.{Page}
use Rattle.stream.specs.declared.printing.Progress.{Progress}
use Rattle.stream.specs.declared.printing.Stop.{Stop}
use Rattle.stream.specs.Desks.{Desk, desk_of}
use Rattle.stream.specs.Printing.{Stopped, Printed}
use Rattle.stream.specs.Pieces.{Standing, Piece, Part, Reads, last_of}
use Rattle.stream.proofs.Pages.{printed-few}
use Rattle.launchramp.specs.declared.Reading.{Reading}
use Rattle.launchramp.specs.declared.ports.Filled.TheVariants.{To}
use Rattle.launchramp.specs.Held.{piece, waiting, Kept, Brought, Held, Ends, Onward, Stands, Turned, starting, Went}

-- what was moved to the front stands there
moved_front : (n at : ℕ) (xs : List ℕ) → at + n ≤ length xs → take n (paste xs 0 (drop at xs) n) ≡ take n (drop at xs)
moved_front n at xs h = take_at (take n (drop at xs)) (drop (0 + n) xs) n (length-take-le n (drop at xs) (omega (arith, h, length-drop at xs)))

-- what waits in front, and the bytes that were read behind it
abbrev behind : ℕ → ℕ → List ℕ → List ℕ
behind n end input = take (end - n) (drop n input)

read_more : (n end : ℕ) (input front : List ℕ) → n ≤ end → take n input ≡ front → take (end - 0) (drop 0 input) ≡ front ++ behind n end input
read_more n end input front h e =
    let all : end - 0 ≡ n + (end - n) = omega (arith, h) in
    ap (λ m. take m input) all ∙ take-add n (end - n) input ∙ ap (λ f. f ++ behind n end input) e

-- the program goes on with the bytes that wait, moved to the front, and others behind them
pub onward-more : (stop : Stop) (d : Reading) (before moved after : List ℕ) (end : ℕ) → Kept d before → moved ≡ paste before 0 (drop d.at before) (d.end - d.at) → Brought (d.end - d.at) (To end) moved after → length moved ≡ length after → Onward stop d (record { records = d.records; at = 0; end = end; ended = None }) before after
onward-more stop d before moved after end kept is brought long =
    let left = d.end - d.at in
    let front = brought.front ∙ ap (take left) is ∙ moved_front left d.at before (omega (arith, kept.taken, kept.there)) in
    record {
      kept = record { taken = omega arith; there = omega (arith, brought.there, long) };
      more = behind left end after;
      bytes = read_more left end after _ brought.behind front;
      ended = tt;
      records = refl;
    }

-- ---- printing takes no more than there is

record Within (d : Reading) (p : Progress) : Type 0 where
  pub at : d.at + p.at ≤ d.end
  pub small : d.end ≤ piece
  pub records : p.records ≤ d.records + piece

part-long : (d : Reading) (input : List ℕ) → Kept d input → length (waiting d input) ≡ d.end - d.at
part-long d input kept = length-take-le (d.end - d.at) (drop d.at input) (omega (arith, kept.taken, kept.there, length-drop d.at input))

printed-within : (d : Reading) (input : List ℕ) (k : Desk) (list : List ℤ) (to : List ℕ) (p : Progress) (l : Lists) (t : Tally) (list' : List ℤ) (to' : List ℕ) → Held d input → Printed (waiting d input) k d.records list to p l t list' to' → Within d p
printed-within d input k list to p l t list' to' held printed =
    let long = part-long d input held.kept in
    record {
      at = omega (arith, long, printed.there, held.kept.taken);
      small = omega (arith, held.kept.there, held.long);
      records = omega (arith, long, printed.there, printed-few _ _ _ _ _ _ _ _ _ _ printed, printed.records, held.kept.there, held.long);
    }

-- what waits once some of it is taken
waits-on : (d : Reading) (input : List ℕ) (k : ℕ) → Kept d input → d.at + k ≤ d.end → take (d.end - (d.at + k)) (drop (d.at + k) input) ≡ drop k (waiting d input)
waits-on d input k kept h =
    let from = drop d.at input in
    let all : d.end - d.at ≡ k + (d.end - (d.at + k)) = omega (arith, h) in
    let first : length (take k from) ≡ k = length-take-le k from (omega (arith, h, kept.there, length-drop d.at input)) in
    sym (ap (λ m. drop k (take m from)) all ∙ ap (drop k) (take-add k (d.end - (d.at + k)) from) ∙ drop_at (take k from) (take (d.end - (d.at + k)) (drop k from)) k first ∙ ap (take (d.end - (d.at + k))) (drop-drop k d.at input))

-- ---- a turn is a piece

module _ (d : Reading) (input : List ℕ) (l m : Lists) (t u : Tally) (list list' : List ℤ) (to to' : List ℕ) (p : Page) (held : Held d input) (printed : Printed (waiting d input) (desk_of l t) d.records list to p.progress m u list' to') (stopped : Stopped p.stop (length to - p.progress.filled) (drop p.progress.at (waiting d input))) where
  -- where printing leaves the program
  abbrev left : Standing → Standing
  left s = record { lists = m; tally = u; records = p.progress.records; held = drop p.progress.at (waiting d input); stop = p.stop; written = s.written ++ take p.progress.filled to' }

  one_piece : (s : Standing) (at : Stands s d input l t) → Piece s at.since (left s)
  one_piece s at = record {
    page = p;
    list = list;
    list' = list';
    to = to;
    to' = to';
    printed =
        subst (λ b. Printed b (desk_of s.lists s.tally) s.records list to p.progress m u list' to') at.bytes
        (subst (λ n. Printed (waiting d input) (desk_of s.lists s.tally) n list to p.progress m u list' to') (sym at.records)
        (subst (λ k. Printed (waiting d input) k d.records list to p.progress m u list' to') (λ i. desk_of (sym at.lists i) (sym at.tally i)) printed));
    ended = subst (λ b. Stopped p.stop (length to - p.progress.filled) (drop p.progress.at b)) at.bytes stopped;
    records = refl;
    held = ap (drop p.progress.at) at.bytes;
    stop = refl;
    written = refl;
  }

  within : Within d p.progress
  within = printed-within d input (desk_of l t) list to p.progress m u list' to' held printed

  -- the program behind what was printed
  abbrev pub next : Reading
  next = record { records = p.progress.records; at = d.at + p.progress.at; end = d.end; ended = None }

  waits : waiting next input ≡ drop p.progress.at (waiting d input)
  waits = waits-on d input p.progress.at held.kept within.at

  pub turned : (e : Reading) (after : List ℕ) → Onward p.stop next e input after → Turned d e input after l t m u
  turned e after o = record {
    kept = o.kept;
    records = omega (arith, within.records, o.records);
    turns = λ s stood. (
      left s,
      one_piece s stood,
      record {
        lists = refl;
        tally = refl;
        records = sym o.records;
        since = o.more;
        bytes = o.bytes ∙ ap (λ w. w ++ o.more) waits;
        ended = subst (λ w. Ends e.ended p.stop w o.more) waits o.ended;
      },
    );
  }

-- ---- one piece after the other

pub went-none : (l : Lists) (t : Tally) (input : List ℕ) → t ≡ fresh → Went l (record { records = 0; at = 0; end = 0; ended = None }) input l t
unfolding Reads last_of
went-none l t input is = record {
  parts = [];
  reads = tt;
  stands = record { lists = refl; tally = sym is; records = refl; since = []; bytes = refl; ended = tt };
}

reads_more : (s : Standing) (ps : List Part) (bytes : List ℕ) (e : Standing) → Reads s ps → Piece (last_of s ps) bytes e → Reads s (ps ++ record { bytes = bytes; left = e } ∷ [])
unfolding Reads last_of
reads_more s [] bytes e r p = (p, tt)
reads_more s (q ∷ ps) bytes e r p = (r.0, reads_more q.left ps bytes e r.1 p)

last_more : (s : Standing) (ps : List Part) (bytes : List ℕ) (e : Standing) → last_of s (ps ++ record { bytes = bytes; left = e } ∷ []) ≡ e
unfolding last_of
last_more s [] bytes e = refl
last_more s (q ∷ ps) bytes e = last_more q.left ps bytes e

pub went-more : (l : Lists) (d e : Reading) (before after : List ℕ) (m n : Lists) (t u : Tally) → Went l d before m t → Turned d e before after m t n u → Went l e after n u
went-more l d e before after m n t u went turned =
    let turn = turned.turns (last_of (starting l) went.parts) went.stands in
    record {
      parts = went.parts ++ record { bytes = went.stands.since; left = turn.0 } ∷ [];
      reads = reads_more (starting l) went.parts went.stands.since turn.0 went.reads turn.1;
      stands = subst (λ s. Stands s e after n u) (sym (last_more (starting l) went.parts went.stands.since turn.0)) turn.2;
    }
