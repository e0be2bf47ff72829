-- Bytes that start with the records of some calls: one record more, more bytes behind them, and what the definitions make of them. Assumes nothing.
use Prim.Native.Nat.{ℕ, ◌+◌, ◌≤◌}
use native.Mathlib.Omega.{arith}
use mathlib.Core.Path.{◌≡◌, refl, sym, ap, subst, ◌∙◌}
use mathlib.Core.List.{List, [], ◌∷◌, ◌++◌}
use lib.ListN.{length, drop, length-drop}
use lib.Seq.{drop-append-le}
use Rattle.history.specs.Histories.{Call}
use Rattle.records.specs.Layout.{whole, front}
use Rattle.records.proofs.Sizes.{whole-size}
use Rattle.records.proofs.Longer.{whole-longer}
use Rattle.stream.specs.Streams.{calls_of, left_of, Starts}
use Rattle.stream.proofs.Unrolling.{calls-whole, left-whole}

-- the records of one list of calls, and behind them those of another
pub starts_more : (bytes mid rest : List ℕ) (cs ds : List Call) → Starts bytes cs mid → Starts mid ds rest → Starts bytes (cs ++ ds) rest
unfolding Starts
starts_more bytes mid rest [] ds s t = subst (λ b. Starts b ds rest) (sym s) t
starts_more bytes mid rest (c ∷ cs) ds s t = (s.0, s.1, starts_more (drop s.0 bytes) mid rest cs ds s.2 t)

-- one record at the front
pub starts-one : (bytes : List ℕ) (c : Call) (n : ℕ) → front bytes ≡ whole c n → Starts bytes (c ∷ []) (drop n bytes)
unfolding Starts
starts-one bytes c n e = (n, e, refl)

-- whatever stands behind, the records are the same
pub starts-longer : (bytes rest more : List ℕ) (cs : List Call) → Starts bytes cs rest → Starts (bytes ++ more) cs (rest ++ more)
unfolding Starts
starts-longer bytes rest more [] s = ap (λ b. b ++ more) s
starts-longer bytes rest more (c ∷ cs) s =
    let behind : drop s.0 (bytes ++ more) ≡ drop s.0 bytes ++ more = drop-append-le s.0 bytes more (whole-size bytes c s.0 s.1).there in
    (s.0, whole-longer bytes more c s.0 s.1, subst (λ b. Starts b cs (rest ++ more)) (sym behind) (starts-longer (drop s.0 bytes) rest more cs s.2))

pub starts-calls : (bytes rest : List ℕ) (cs : List Call) → Starts bytes cs rest → calls_of bytes ≡ cs ++ calls_of rest
unfolding Starts
starts-calls bytes rest [] s = ap calls_of s
starts-calls bytes rest (c ∷ cs) s = calls-whole bytes c s.0 s.1 ∙ ap (λ l. c ∷ l) (starts-calls (drop s.0 bytes) rest cs s.2)

pub starts-left : (bytes rest : List ℕ) (cs : List Call) → Starts bytes cs rest → left_of bytes ≡ left_of rest
unfolding Starts
starts-left bytes rest [] s = ap left_of s
starts-left bytes rest (c ∷ cs) s = left-whole bytes c s.0 s.1 ∙ starts-left (drop s.0 bytes) rest cs s.2

-- a record has bytes
pub starts-few : (bytes rest : List ℕ) (cs : List Call) → Starts bytes cs rest → length cs + length rest ≤ length bytes
unfolding Starts
starts-few bytes rest [] s = omega (arith, ap length s)
starts-few bytes rest (c ∷ cs) s =
    let size = whole-size bytes c s.0 s.1 in
    let fewer = starts-few (drop s.0 bytes) rest cs s.2 in
    omega (arith, fewer, size.least, size.there, length-drop s.0 bytes)
