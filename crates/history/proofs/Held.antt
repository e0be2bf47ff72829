-- What the lists hold after any calls on them is what the definitions say, so that the theorems about registers are about the lists.
-- Assumes nothing.
use Prim.Native.Nat.{ℕ}
use mathlib.Core.Path.{◌≡◌, refl, sym, ap, subst, ◌∙◌}
use mathlib.Core.Bool.{true, false}
use mathlib.Core.List.{List, [], ◌∷◌}
use mathlib.Core.Logic.{◌⊎◌}
use lib.IntN.{ℤ, pos, negsuc}
use Rattle.ring.specs.declared.Point.{Point}
use Rattle.ring.specs.Grid.{point, vertices, beyond}
use Rattle.ring.specs.Rings.{Weight, Antisymmetric}
use Rattle.std.specs.Prelude.{Result}
use Rattle.districts.specs.declared.Report.{Report}
use Rattle.refusals.specs.declared.Refusal.{Refusal}
use Rattle.districts.specs.Register.{Register, slot}
use Rattle.districts.specs.Answers.{answer_of}
use Rattle.refusals.specs.Verdicts.{Verdict, accept, refuse, verdict, verdict_of}
use Rattle.register.specs.Sorting.{assigned}
use Rattle.register.specs.declared.Position.{Position}
use Rattle.register.specs.Placing.{is_missing, not_finite, east_of, north_of, place_tests, assigned_at}
use Rattle.register.proofs.ByPosition.{as-on-grid}
use Rattle.register.specs.Founding.{found_tests, founded}
use Rattle.districts.specs.Lent.{Lists, formed, means, Leaves}
use Rattle.judging.specs.Splitting.{split_tests}
use Rattle.changes.specs.Afterwards.{split, merge}
use Rattle.judging.specs.Merging.{merge_tests}
use Rattle.history.specs.Histories.{empty, judged, made, taken, step, after}
use Rattle.history.specs.Adding.{sum_over, slot_sum, slot_winding, ClearOf, SaidOne}
use Rattle.history.specs.Limits.{Within}
use Rattle.history.specs.Turns.{Turn, founding, splitting, merging, reporting, call_of, left_by, Promised, calls, last, Ran, Fresh}
use Rattle.history.proofs.Balanced.{districts-add-up}
use Rattle.history.proofs.Windings.{windings-add-up}
use Rattle.history.proofs.Alone.{one-district}
use Rattle.history.proofs.Limits.{within-limits}

-- what a call leaves, from its verdict
pub kept : (v w : Verdict) → v ≡ w → (g : Register) (before after : Lists) → formed before ≡ true → Leaves v g before after → (formed after ≡ true) × (means after ≡ taken w (means before) g)
kept v w e g before after h l = subst (λ u. (formed after ≡ true) × (means after ≡ taken u (means before) g)) e (say v l)
  where
    say : (v : Verdict) → Leaves v g before after → (formed after ≡ true) × (means after ≡ taken v (means before) g)
    say accept l = l
    say (refuse n) l = (sym (ap formed l) ∙ h, sym (ap means l))

-- one turn is one step
turned : (l : Lists) (t : Turn) → formed l ≡ true → Promised l t → (formed (left_by l t) ≡ true) × (means (left_by l t) ≡ step (means l) (call_of t))
unfolding step judged made
turned l (founding xs r m) h p = kept (verdict_of r) (verdict (found_tests true (means l) xs)) (p.said ∙ ap (λ b. verdict (found_tests b (means l) xs)) h) (founded xs) l m h p.left
turned l (splitting d i j path r m) h p = kept _ _ (ap (λ b. verdict (split_tests b (means l) d i j path)) h) (split (means l) d i j (vertices path)) l m h p.left
turned l (merging A a B b k r m) h p = kept _ _ (ap (λ c. verdict (merge_tests c (means l) A a B b k)) h) (merge (means l) A a B b k) l m h p.left
turned l (reporting r q a) h p = (h, say (verdict (place_tests true (means l) q)))
  where
    say : (v : Verdict) → means l ≡ taken v (means l) (means l)
    say accept = refl
    say (refuse n) = refl

-- the lists stay well-formed, and mean what the calls make of the register
pub held : (l : Lists) (ts : List Turn) → formed l ≡ true → Ran l ts → (formed (last l ts) ≡ true) × (means (last l ts) ≡ after (means l) (calls ts))
unfolding last calls Ran after
held l [] h p = (h, refl)
held l (t ∷ ts) h p =
    let first = turned l t h p.0 in
    let rest = held (left_by l t) ts first.0 p.1 in
    (rest.0, rest.1 ∙ ap (λ g. after g (calls ts)) first.1)

-- ---- from an empty register

module _ (l : Lists) (ts : List Turn) (fresh : Fresh l) (ran : Ran l ts) where
  now-is : means (last l ts) ≡ after empty (calls ts)
  now-is = (held l ts fresh.0 ran).1 ∙ ap (λ g. after g (calls ts)) fresh.1

  pub lists-well-formed : formed (last l ts) ≡ true
  lists-well-formed = (held l ts fresh.0 ran).0

  pub lists-within : Within (means (last l ts))
  lists-within = subst Within (sym now-is) (within-limits (calls ts))

  pub lists-add-up : (f : Weight) → Antisymmetric f → sum_over (slot_sum f) (means (last l ts)).districts ≡ slot_sum f (means (last l ts)).outline
  lists-add-up f anti = subst (λ g. sum_over (slot_sum f) g.districts ≡ slot_sum f g.outline) (sym now-is) (districts-add-up f anti (calls ts))

  -- demand 3
  pub lists-wind : (R : Point) → ClearOf (means (last l ts)) R → sum_over (slot_winding R) (means (last l ts)).districts ≡ slot_winding R (means (last l ts)).outline
  lists-wind R free = subst (λ g. sum_over (slot_winding R) g.districts ≡ slot_winding R g.outline) (sym now-is) (windings-add-up (calls ts) R (subst (λ g. ClearOf g R) now-is free))

  -- a report on the grid and on no edge, where the outline's winding number is 1 and each district's 0 or 1 (or -1 and each 0 or -1)
  pub lists-one : (a : Result Report Refusal) (r : ℕ) (x y u : ℤ) → answer_of a ≡ assigned (formed (last l ts)) (means (last l ts)) r x y
      → (u ≡ pos 1) ⊎ (u ≡ negsuc 0) → beyond x ≡ false → beyond y ≡ false → ClearOf (means (last l ts)) (point x y)
      → slot_winding (point x y) (means (last l ts)).outline ≡ u
      → ((d : ℕ) → (slot_winding (point x y) (slot (means (last l ts)) d) ≡ pos 0) ⊎ (slot_winding (point x y) (slot (means (last l ts)) d) ≡ u))
      → SaidOne (answer_of a) (means (last l ts)) r (point x y) u
  lists-one a r x y u said unit across up-too free whole each = told (means (last l ts)) (
      ap (λ b. assigned b (means (last l ts)) r x y) lists-well-formed) said (
      subst Hypotheses (sym now-is) (λ free whole each. one-district (calls ts) r x y u unit across up-too free whole each) free whole each)
    where
      Hypotheses : Register → Type 0
      Hypotheses g = ClearOf g (point x y) → slot_winding (point x y) g.outline ≡ u
          → ((d : ℕ) → (slot_winding (point x y) (slot g d) ≡ pos 0) ⊎ (slot_winding (point x y) (slot g d) ≡ u)) → SaidOne (assigned true g r x y) g r (point x y) u

      told : (g : Register) → assigned (formed (last l ts)) g r x y ≡ assigned true g r x y → answer_of a ≡ assigned (formed (last l ts)) g r x y → SaidOne (assigned true g r x y) g r (point x y) u → SaidOne (answer_of a) g r (point x y) u
      told g e f h = record { district = h.district; is = f ∙ e ∙ h.is; only = h.only }

  -- the same of a report with any position that is there and finite
  pub lists-one-at : (a : Result Report Refusal) (r : ℕ) (p : Position) (u : ℤ) → answer_of a ≡ assigned_at (formed (last l ts)) (means (last l ts)) r p → is_missing p ≡ false → not_finite p ≡ false
      → (u ≡ pos 1) ⊎ (u ≡ negsuc 0) → beyond (east_of p) ≡ false → beyond (north_of p) ≡ false → ClearOf (means (last l ts)) (point (east_of p) (north_of p))
      → slot_winding (point (east_of p) (north_of p)) (means (last l ts)).outline ≡ u
      → ((d : ℕ) → (slot_winding (point (east_of p) (north_of p)) (slot (means (last l ts)) d) ≡ pos 0) ⊎ (slot_winding (point (east_of p) (north_of p)) (slot (means (last l ts)) d) ≡ u))
      → SaidOne (answer_of a) (means (last l ts)) r (point (east_of p) (north_of p)) u
  lists-one-at a r p u said there fine = lists-one a r (east_of p) (north_of p) u (said ∙ as-on-grid (formed (last l ts)) (means (last l ts)) r p there fine)
