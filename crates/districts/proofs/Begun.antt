-- What `begins` and `begun`, with whose two tests a call begins, tell of the lists and of the tests behind them. Assumes nothing.
use Prim.Native.Nat.{ℕ}
use mathlib.Core.Path.{◌≡◌, sym, ap, ◌∙◌}
use mathlib.Core.Bool.{Bool, true, false, not}
use mathlib.Core.List.{List, ◌++◌}
use borrow.Author.Tests.{eq-eqb, ne_eqb, not-false}
use Rattle.std.specs.Prelude.{Result}
use Rattle.refusals.specs.declared.Refusal.{Refusal}
use Rattle.refusals.specs.Verdicts.{Test, Verdict, accept, refuse, verdict, verdict_of}
use Rattle.refusals.proofs.Verdicts.{accepted, stops-early, passes-first, stops_at, passes, passed-all}
use Rattle.ring.specs.declared.Point.{Point}
use Rattle.districts.specs.Lists.{meaning, outline_size}
use Rattle.districts.specs.Lent.{Lists, outline_of, store_of, formed, means, beginning}
use Rattle.districts.proofs.Lent.{no-outline}

-- the two tests, decided, whatever the columns hold
module _ (good : Bool) (outline store : List Point) (runs : List ℕ) where
  pub known-damaged : good ≡ false → verdict (beginning good (meaning outline store runs)) ≡ refuse 1
  known-damaged e = stops_at 1 _ _ (ap not e)

  pub known-empty : good ≡ true → outline_size runs ≡ 0 → verdict (beginning good (meaning outline store runs)) ≡ refuse 2
  known-empty e z = passes 1 _ _ (ap not e) ∙ stops_at 2 _ _ (no-outline outline store runs ∙ eq-eqb _ 0 z)

  pub known-usable : good ≡ true → (outline_size runs ≡ 0 → ⊥) → verdict (beginning good (meaning outline store runs)) ≡ accept
  known-usable e z = passes 1 _ _ (ap not e) ∙ passes 2 _ _ (no-outline outline store runs ∙ ne_eqb _ 0 z) ∙ passed-all

-- what is known of the lists is so: then the two tests are those of the lists
pub begins-so : (l : Lists) (good : Bool) (r : Result (Unit {0}) Refusal) → good ≡ formed l → ((outline store : List Point) → verdict_of r ≡ verdict (beginning good (meaning outline store l.runs))) → verdict_of r ≡ verdict (beginning (formed l) (means l))
begins-so l good r known said = said (outline_of l) (store_of l) ∙ ap (λ b. verdict (beginning b (means l))) known

module _ (l : Lists) where
  -- the two tests of these lists, decided
  pub not-formed : formed l ≡ false → verdict (beginning (formed l) (means l)) ≡ refuse 1
  not-formed = known-damaged (formed l) (outline_of l) (store_of l) l.runs

  pub no-outline-there : formed l ≡ true → outline_size l.runs ≡ 0 → verdict (beginning (formed l) (means l)) ≡ refuse 2
  no-outline-there = known-empty (formed l) (outline_of l) (store_of l) l.runs

  pub outline-there : formed l ≡ true → (outline_size l.runs ≡ 0 → ⊥) → verdict (beginning (formed l) (means l)) ≡ accept
  outline-there = known-usable (formed l) (outline_of l) (store_of l) l.runs

  pub begun-formed : verdict (beginning (formed l) (means l)) ≡ accept → formed l ≡ true
  begun-formed e = not-false _ (accepted 1 _ _ e).0

  -- the tests behind them decide, or one of the two has
  pub begun-passed : verdict (beginning (formed l) (means l)) ≡ accept → (ts : List Test) (v : Verdict) → v ≡ verdict ts → v ≡ verdict (beginning (formed l) (means l) ++ ts)
  begun-passed e ts v f = f ∙ sym (passes-first (beginning (formed l) (means l)) ts e)

  pub begun-refused : (n : ℕ) → verdict (beginning (formed l) (means l)) ≡ refuse n → (ts : List Test) → refuse n ≡ verdict (beginning (formed l) (means l) ++ ts)
  begun-refused n e ts = sym (stops-early n (beginning (formed l) (means l)) ts e)
