-- No second outcome fits the promise of writing a line. Assumes nothing.
use Prim.Native.Nat.{ℕ}
use mathlib.Core.Path.{◌≡◌, sym, ◌∙◌}
use mathlib.Core.List.{List}
use Rattle.wording.specs.Lines.{Written}

pub one_line : (r s : ℕ) (text before after after' : List ℕ) → Written r text before after → Written s text before after' → (r ≡ s) × (after ≡ after')
one_line r s text before after after' w v = (w.answered ∙ sym v.answered, w.left ∙ sym v.left)
