-- `districts::begins` goes by what is known of the lists, then asks for the outline. Assumes nothing.
use mathlib.Core.Path.{sym, ◌∙◌}
use Rattle.districts.proofs.Begun.{known-damaged, known-empty, known-usable}
use Rattle.districts.proofs.lists.begins.Goals as goal

pub returns-then-not-good : goal.returns-then-not-good
returns-then-not-good c outline store = sym (known-damaged _ outline store _ c.if-not-good.true)

pub returns-then-outline_size-eq0 : goal.returns-then-outline_size-eq0
returns-then-outline_size-eq0 c outline store = sym (known-empty _ outline store _ c.if-not-good.false (sym c.outline_size.ensures.0 ∙ c.if-outline_size-eq0.true))

pub returns : goal.returns
returns c outline store = sym (known-usable _ outline store _ c.if-not-good.false (λ e. c.if-outline_size-eq0.false (c.outline_size.ensures.0 ∙ e)))
