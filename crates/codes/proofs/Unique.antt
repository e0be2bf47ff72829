-- What is told of an answer, of a fix and of many reports: no second outcome fits. Assumes nothing.
use Prim.Native.Nat.{ℕ}
use mathlib.Core.Path.{◌≡◌, sym, ap, ◌∙◌}
use mathlib.Core.List.{List}
use lib.IntN.{ℤ}
use lib.ListN.{length}
use Rattle.std.specs.Prelude.{Result}
use Rattle.ring.specs.declared.Point.{Point}
use Rattle.refusals.specs.declared.Refusal.{Refusal}
use Rattle.refusals.specs.Verdicts.{Verdict, accept, refuse}
use Rattle.districts.specs.Lent.{Lists}
use Rattle.tally.specs.declared.Tally.{Tally}
use Rattle.codes.specs.Codes.{Code, Tells, PlaceTells}
use Rattle.codes.specs.Counts.{tally_of}
use Rattle.codes.specs.Batches.{TallyBy, batch, BatchTells, BatchCounts}

pub one_told : (r s : ℕ) (values values' : List ℕ) (c : Code) → Tells r values c → Tells s values' c → (r ≡ s) × (values ≡ values')
one_told r s values values' c p q = (p.kind ∙ sym q.kind, p.values ∙ sym q.values)

pub one_placed : (r s : ℕ) (values values' : List ℕ) (p : Result Point Refusal) (before after after' : List ℤ) → PlaceTells r values p before after → PlaceTells s values' p before after' → (r ≡ s) × (values ≡ values') × (after ≡ after')
one_placed r s values values' p before after after' t u =
    let told = one_told r s values values' _ t.tells u.tells in
    (told.0, told.1, t.left ∙ sym u.left)

pub one_batch : (r s : ℕ) (values values' : List ℕ) (l : Lists) (xs : List ℤ) (before after after' : List ℕ) → BatchTells r values l xs before after → BatchTells s values' l xs before after' → (r ≡ s) × (values ≡ values') × (after ≡ after')
one_batch r s values values' l xs before after after' p q =
    let told = one_told r s values values' _ p.tells q.tells in
    (told.0, told.1, p.left ∙ sym q.left)

pub one-counted-batch : (r s : ℕ) (values values' : List ℕ) (l : Lists) (xs : List ℤ) (before after after' counts now now' : List ℕ) → BatchCounts r values l xs before after counts now → BatchCounts s values' l xs before after' counts now'
    → (r ≡ s) × (values ≡ values') × (after ≡ after') × (tally_of now ≡ tally_of now')
one-counted-batch r s values values' l xs before after after' counts now now' p q =
    let told = one_told r s values values' _ p.tells q.tells in
    (told.0, told.1, p.left ∙ sym q.left, one-tally (batch l xs (length before)) _ counts now now' p.tally q.tally)
  where
    one-tally : (v : Verdict) (t : Tally) (counts now now' : List ℕ) → TallyBy v t counts now → TallyBy v t counts now' → tally_of now ≡ tally_of now'
    one-tally accept t counts now now' a b = a ∙ sym b
    one-tally (refuse n) t counts now now' a b = ap tally_of (sym a ∙ b)
