-- The last lines at the front of a list: one line, and two of them one behind the other. Assumes nothing.
use Prim.Native.Nat.{ℕ, ◌+◌, ◌<◌}
use native.Mathlib.Omega.{arith}
use mathlib.Core.Path.{◌≡◌, sym, ap, ◌∙◌}
use mathlib.Core.Bool.{true}
use mathlib.Core.List.{List, ◌++◌}
use lib.ListN.{length, take, drop, length-append}
use lib.Seq.{take_at, take-add, take-append-le, drop_at, length-take-le}
use Rattle.wording.specs.Lines.{broken, refused, room}
use Rattle.wording.proofs.Written.{line-short}
use Rattle.stream.specs.Desks.{broken_line}
use Rattle.launchramp.specs.Held.{Opens}

-- as many places as the text is long
opens-long : (r : ℕ) (text list : List ℕ) → Opens r text list → r ≡ length text
opens-long r text list o = sym (length-take-le r list o.there) ∙ ap length o.first

-- what is written behind a text, in the rest of the list
pub opens-both : (n m k : ℕ) (s t list rest : List ℕ) → Opens n s list → Opens m t rest → Opens (n + m) (s ++ t) (take n list ++ (rest ++ drop k (drop n list)))
opens-both n m k s t list rest o p =
    let front = take n list in
    let back = drop k (drop n list) in
    let long = length-take-le n list o.there in
    record {
      there = omega (arith, p.there, long, length-append front (rest ++ back), length-append rest back);
      first =
          take-add n m (front ++ (rest ++ back))
          ∙ (λ i. take_at front (rest ++ back) n long i ++ take m (drop_at front (rest ++ back) n long i))
          ∙ (λ i. o.first i ++ (take-append-le m rest back p.there ∙ p.first) i);
    }

-- the line of a broken record needs fewer places than a list has that is lent for one
pub broken-short : (n r : ℕ) (list : List ℕ) → Opens r (broken_line true n) list → r < room
broken-short n r list o = omega (arith, opens-long r _ list o, line-short n broken (refused 13))
