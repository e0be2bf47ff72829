-- No second outcome fits the promises of the exported calls. Assumes nothing.
use Prim.Native.Nat.{ℕ}
use mathlib.Core.Path.{◌≡◌, refl, sym, ◌∙◌}
use mathlib.Core.List.{List}
use Rattle.districts.specs.Register.{Register}
use Rattle.districts.specs.Answers.{Answer}
use Rattle.refusals.specs.Verdicts.{Verdict}
use Rattle.districts.specs.Lent.{Lists, formed, means}
use Rattle.districts.proofs.Unique.{both_left}
use Rattle.codes.specs.Codes.{Code}
use Rattle.codes.specs.Counts.{tally_of}
use Rattle.codes.proofs.Unique.{one_told}
use Rattle.exports.specs.Calls.{ToldBy, CountTells}

-- two outcomes of one change tell the same and leave the same register
pub record Same (r s : ℕ) (values values' : List ℕ) (after after' : Lists) : Type 0 where
  pub told : (r ≡ s) × (values ≡ values')
  pub meaning : means after ≡ means after'
  pub form : formed after ≡ formed after'

pub one-change : (v : Verdict) (c : Code) (g : Register) (r s : ℕ) (values values' : List ℕ) (before after after' : Lists) → ToldBy v c g r values before after → ToldBy v c g s values' before after' → Same r s values values' after after'
one-change v c g r s values values' before after after' p q =
    let l = both_left v v refl g before after after' p.left q.left in
    record { told = one_told r s values values' c p.tells q.tells; meaning = l.0; form = l.1 }

pub one-counted : (r s : ℕ) (values values' : List ℕ) (a : Answer) (before after after' : List ℕ) → CountTells r values a before after → CountTells s values' a before after' → (r ≡ s) × (values ≡ values') × (tally_of after ≡ tally_of after')
one-counted r s values values' a before after after' p q =
    let told = one_told r s values values' _ p.tells q.tells in
    (told.0, told.1, p.tally ∙ sym q.tally)
