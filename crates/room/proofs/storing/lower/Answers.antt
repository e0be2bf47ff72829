-- `storing::lower` takes one first place after the other. The invariant: those below e are lowered, the others are as they were, and
-- so is everything that is no first place. Assumes nothing.
use Prim.Native.Nat.{ℕ, ◌+◌, ◌-◌, ◌<◌}
use native.Mathlib.Decide.{ℕ_discrete}
use native.Mathlib.Omega.{arith}
use mathlib.Core.Path.{◌≡◌, refl, sym, ap, ◌∙◌}
use mathlib.Core.List.{List}
use mathlib.Core.Logic.{◌⊎◌, inl, inr}
use lib.Dec.{leb}
use lib.ListN.{length, get_or, set, length-set}
use lib.Seq.{get_or-set_same, get_or-set_other}
use Rattle.ring.specs.Choices.{pick}
use Rattle.districts.specs.Lists.{first_place}
use Rattle.room.specs.Writing.{Lowered}
use Rattle.room.proofs.storing.lower.Invariants.{Lowering}
use Rattle.room.proofs.storing.lower.Goals as goal

lowering-more : (runs₀ : List ℕ) (end n : ℕ) (runs : List ℕ) (e v : ℕ) → length runs₀ ≡ 129 → e < 64 → v ≡ pick (leb end (first_place runs e)) (first_place runs e - n) (first_place runs e) → Lowering runs₀ end n runs e → Lowering runs₀ end n (set runs (1 + e) v) (e + 1)
lowering-more runs₀ end n runs e v long h f l = record {
  long = length-set runs (1 + e) v ∙ l.long;
  done = done;
  others = others;
}
  where
    same : first_place runs e ≡ first_place runs₀ e
    same = l.others (1 + e) (inr (omega arith))

    done : (k : ℕ) → k < e + 1 → first_place (set runs (1 + e) v) k ≡ pick (leb end (first_place runs₀ k)) (first_place runs₀ k - n) (first_place runs₀ k)
    done k i = elim (ℕ_discrete k e) [
      | yes s ↦ ap (first_place (set runs (1 + e) v)) s ∙ get_or-set_same runs (1 + e) v 0 (omega (arith, l.long)) ∙ f ∙ ap (λ p. pick (leb end p) (p - n) p) (same ∙ ap (first_place runs₀) (sym s))
      | no s ↦ get_or-set_other runs (1 + e) (1 + k) v 0 (λ (g : 1 + k ≡ 1 + e). omega arith) ∙ l.done k (omega arith)
    ]

    others : (k : ℕ) → (k ≡ 0) ⊎ (e + 1 < k) → get_or (set runs (1 + e) v) k 0 ≡ get_or runs₀ k 0
    others k (inl i) = get_or-set_other runs (1 + e) k v 0 (λ (g : k ≡ 1 + e). omega arith) ∙ l.others k (inl i)
    others k (inr i) = get_or-set_other runs (1 + e) k v 0 (λ (g : k ≡ 1 + e). omega arith) ∙ l.others k (inr (omega arith))

lowering-all : (runs₀ : List ℕ) (end n : ℕ) (runs : List ℕ) (e : ℕ) → e ≡ 64 → Lowering runs₀ end n runs e → Lowered runs₀ end n runs
lowering-all runs₀ end n runs e h l = record {
  long = l.long;
  places = λ k i. l.done k (omega arith);
  outline = l.others 0 (inl refl);
  sizes = λ k i. l.others k (inr (omega arith));
}

pub loop-e-init : goal.loop-e-init
loop-e-init c = record { long = refl; done = λ k i. absurd (omega arith); others = λ k i. refl }

pub loop-e-preserved : goal.loop-e-preserved
loop-e-preserved c =
    let a = c.args in
    lowering-more a.runs.now a.end a.n c.loop-e.runs c.loop-e.e c.lowered.result c.requires.runs_len c.loop-e-test.true c.lowered.ensures.0 c.loop-e.invariant

pub returns : goal.returns
returns c = lowering-all _ _ _ _ _ (omega (arith, c.loop-e-test.false, c.loop-e.auto.e-end)) c.loop-e.invariant
