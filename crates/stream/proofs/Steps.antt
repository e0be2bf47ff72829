-- What a call does to the desk. Assumes nothing.
use mathlib.Core.Path.{◌≡◌, refl, sym, ap, ◌∙◌}
use mathlib.Core.Bool.{true}
use Rattle.refusals.specs.Verdicts.{Verdict, accept, refuse, verdict}
use Rattle.register.specs.Founding.{found_tests}
use Rattle.register.specs.Placing.{place_tests}
use Rattle.districts.specs.Lent.{Lists, formed, means}
use Rattle.tally.specs.declared.Tally.{Tally}
use Rattle.judging.specs.Splitting.{split_tests}
use Rattle.judging.specs.Merging.{merge_tests}
use Rattle.history.specs.Histories.{Call, founding, splitting, merging, reporting, judged, made, taken, step}
use Rattle.history.proofs.Held.{kept}
use Rattle.stream.specs.Replies.{judged_on, tallied_by, LeftBy}
use Rattle.stream.specs.Desks.{desk_of, next}

-- what a call leaves is a step of the register
pub stepped : (c : Call) (before after : Lists) → formed before ≡ true → LeftBy c before after → (formed after ≡ true) × (means after ≡ step (means before) c)
unfolding step judged judged_on made
stepped (founding xs) before after h l = kept _ _ (ap (λ b. verdict (found_tests b (means before) xs)) h) (made (means before) (founding xs)) before after h l
stepped (splitting d i j path) before after h l = kept _ _ (ap (λ b. verdict (split_tests b (means before) d i j path)) h) (made (means before) (splitting d i j path)) before after h l
stepped (merging A a B b k) before after h l = kept _ _ (ap (λ w. verdict (merge_tests w (means before) A a B b k)) h) (made (means before) (merging A a B b k)) before after h l
stepped (reporting r p) before after h l = (sym (ap formed l) ∙ h, sym (ap means l) ∙ say (verdict (place_tests true (means before) p)))
  where
    say : (v : Verdict) → means before ≡ taken v (means before) (means before)
    say accept = refl
    say (refuse n) = refl

pub desk-next : (c : Call) (t u : Tally) (before after : Lists) → formed before ≡ true → LeftBy c before after → u ≡ tallied_by (formed before) (means before) t c → desk_of after u ≡ next (desk_of before t) c
desk-next c t u before after h l e =
    let register = (stepped c before after h l).1 in
    let tally = e ∙ ap (λ b. tallied_by b (means before) t c) h in
    λ i. record { register = register i; tally = tally i }
