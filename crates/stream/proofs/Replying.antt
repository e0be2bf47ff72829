-- From what a call on the register promises to what its record is answered. Assumes nothing.
use Prim.Native.Nat.{ℕ}
use mathlib.Core.Path.{◌≡◌, refl, sym, ap, subst, ◌∙◌}
use mathlib.Core.List.{List}
use lib.IntN.{ℤ}
use Rattle.std.specs.Prelude.{Result}
use Rattle.std.proofs.Common.{Bor}
use Rattle.refusals.specs.declared.Refusal.{Refusal}
use Rattle.refusals.specs.Verdicts.{Verdict, accept, refuse, verdict, verdict_of}
use Rattle.register.specs.Founding.{founded}
use Rattle.register.specs.Calls.{FoundBy}
use Rattle.districts.specs.Lent.{Lists, lent, formed, means, Leaves}
use Rattle.districts.specs.Held.{changing_of}
use Rattle.districts.specs.declared.lists.ListsToChange.{ListsToChange}
use Rattle.changes.specs.Answers.{answer_of, answers}
use Rattle.judging.specs.Splitting.{split_tests, lowest_unused}
use Rattle.judging.specs.Merging.{merge_tests}
use Rattle.changes.specs.Calls.{SplitBy, MergeBy}
use Rattle.history.specs.Histories.{Call, founding, splitting, merging, made}
use Rattle.wording.specs.Lines.{Said, ok, ok_with}
use Rattle.stream.specs.Replies.{judged_on, saying_of, changing, replied, ChangedBy}

pub founding-by : (r : Result (Unit {0}) Refusal) (s : Said) (xs : List ℤ) (before after : Lists) → FoundBy r xs before after → s ≡ saying_of (verdict_of r) ok → ChangedBy s (founding xs) before after
unfolding judged_on replied made
founding-by r s xs before after by says =
    record { answer = λ t. says ∙ ap (λ v. saying_of v ok) by.said; left = subst (λ v. Leaves v (founded xs) before after) by.said by.left }

-- a change's answer, said by its verdict
said-so : (v : Verdict) (d : ℕ) → changing (answers v d) ≡ saying_of v (ok_with d)
said-so accept d = refl
said-so (refuse n) d = refl

pub splitting-by : (r : Result ℕ Refusal) (s : Said) (d i j : ℕ) (path : List ℤ) (before after : Lists) → SplitBy r d i j path before after → s ≡ changing (answer_of r) → ChangedBy s (splitting d i j path) before after
unfolding judged_on replied made
splitting-by r s d i j path before after by says =
    record { answer = λ t. says ∙ ap changing by.said ∙ said-so (verdict (split_tests (formed before) (means before) d i j path)) (lowest_unused (means before)); left = by.left }

pub merging-by : (r : Result ℕ Refusal) (s : Said) (A a B b k : ℕ) (before after : Lists) → MergeBy r A a B b k before after → s ≡ changing (answer_of r) → ChangedBy s (merging A a B b k) before after
unfolding judged_on replied made
merging-by r s A a B b k before after by says =
    record { answer = λ t. says ∙ ap changing by.said ∙ said-so (verdict (merge_tests (formed before) (means before) A a B b k)) A; left = by.left }

-- lists that are the same are left the same
pub left-so : (s : Said) (c : Call) (before after after' : Lists) → after' ≡ after → ChangedBy s c before after → ChangedBy s c before after'
left-so s c before after after' e by = subst (λ l. ChangedBy s c before l) (sym e) by

-- the lists once their districts are changed, with the outline that was lent to be read
pub with-outline : (l : ListsToChange) (ox oy : Bor (List ℤ)) → ox ≡ l.ox → oy ≡ l.oy → lent ox.now oy.now l.sx.now l.sy.now l.runs.now ≡ changing_of l
with-outline l ox oy e f i = lent (e i).now (f i).now l.sx.now l.sy.now l.runs.now
