-- No second outcome fits: the tally and the answer that `count` promises are the only ones. Assumes nothing.
use mathlib.Core.Path.{◌≡◌, sym, ◌∙◌}
use Rattle.std.specs.Prelude.{Result}
use Rattle.refusals.specs.declared.Refusal.{Refusal}
use Rattle.districts.specs.declared.Report.{Report}
use Rattle.districts.specs.Answers.{answer_of}
use Rattle.districts.proofs.Unique.{answer_of-injective}
use Rattle.tally.specs.declared.Tally.{Tally}
use Rattle.tally.specs.Tally.{tallied, answered}

-- u and v are tallies afterwards, r and s answers, to the same answer a counted in the same tally t
pub one-outcome : (t : Tally) (a : Result Report Refusal) (u v : Tally) (r s : Result Report Refusal)
    → (u ≡ tallied t (answer_of a)) × (answer_of r ≡ answered t (answer_of a))
    → (v ≡ tallied t (answer_of a)) × (answer_of s ≡ answered t (answer_of a))
    → (u ≡ v) × (r ≡ s)
one-outcome t a u v r s p q = (p.0 ∙ sym q.0, answer_of-injective r s (p.1 ∙ sym q.1))
