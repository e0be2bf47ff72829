-- Two districts leave and one takes their result: the lists stay well-formed, with the result under its number and the other unused.
-- Assumes nothing.
use Prim.Native.Nat.{ℕ, suc, ◌+◌, ◌-◌, ◌%◌, ◌≤◌, ◌<◌}
use native.Mathlib.Omega.{arith}
use mathlib.Core.Path.{◌≡◌, sym, ap, ◌∙◌}
use mathlib.Core.Bool.{false}
use mathlib.Core.List.{List, ◌++◌}
use mathlib.Core.Logic.{◌⊎◌, inl, inr}
use lib.ListN.{length, set}
use lib.Seq.{set-set, set_comm}
use borrow.Author.Tests.{le-leb, lt-leb}
use Rattle.ring.specs.declared.Point.{Point}
use Rattle.ring.specs.Grid.{some_beyond}
use Rattle.ring.proofs.Pick.{pick_true, pick-false}
use Rattle.districts.specs.Register.{Slot, unused, ring, Register}
use Rattle.districts.specs.Lists.{outline_size, first_place, size, meaning}
use Rattle.districts.specs.WellFormed.{total}
use Rattle.room.specs.Runs.{run}
use Rattle.room.specs.Writing.{numbers_of, Left}
use Rattle.room.proofs.Written.{run-rest}
use Rattle.room.proofs.Forms.{Sound}
use Rattle.room.proofs.Leaving.{left-total, left-sound, left-meaning}
use Rattle.room.proofs.Additions.{given, added-sound, added-meaning}
use Rattle.judging.specs.Merging.{merged}
use Rattle.changes.specs.Performing.{Pair, Joined}

-- the two runs as the code counts them
pub merged-is : (P Q : List Point) (a b n m k first : ℕ) → length P ≡ n → length Q ≡ m → first ≡ (a + k) % n → run P first (n - k + 1) ++ run Q (b + 1) (m - k - 1) ≡ merged P a Q b k
merged-is P Q a b n m k first e f g =
    let many : n - k + 1 ≡ suc (length P - k) = omega (arith, e) in
    let next : b + 1 ≡ suc b = omega arith in
    let rest : m - k - 1 ≡ length Q - suc k = omega (arith, f) in
    (λ t. run P (g t) (many t) ++ run Q (next t) (rest t))
    ∙ ap (λ l. l ++ run Q (suc b) (length Q - suc k)) (run-rest P n (a + k) (suc (length P - k)) e)

-- ---- the first has left

module _ (store : List Point) (runs : List ℕ) (A B : ℕ) (p : Pair runs A B) (store₁ : List Point) (runs₁ : List ℕ) (l : Left store runs A store₁ runs₁) where
  other : B ≡ A → ⊥
  other e = p.differ (sym e)

  pub second-size : size runs₁ B ≡ size runs B
  second-size = l.sizes B p.second other

  pub first-total : total runs₁ + size runs A ≡ total runs
  first-total = left-total store runs A store₁ runs₁ p.first l

  -- the other's run stays, or moves down with what stands after the first's
  pub still-inside : first_place runs₁ B + size runs₁ B ≤ total runs₁
  still-inside = say p.apart
    where
      end : ℕ
      end = first_place runs A + size runs A

      say : (end ≤ first_place runs B) ⊎ (first_place runs B + size runs B ≤ first_place runs A) → first_place runs₁ B + size runs₁ B ≤ total runs₁
      say (inl after) =
          let place = l.places B p.second other ∙ pick_true (le-leb end (first_place runs B) after) _ _ in
          omega (arith, place, second-size, first-total, p.second-inside)
      say (inr before) =
          let place = l.places B p.second other ∙ pick-false (lt-leb end (first_place runs B) (omega (arith, p.more, p.some))) _ _ in
          omega (arith, place, second-size, first-total, p.first-inside)

-- ---- both have left, and the result is taken

module _ (outline store : List Point) (runs : List ℕ) (A B : ℕ) (P : List Point) (store' : List Point) (runs' : List ℕ)
    (good : Sound outline store runs) (some : 0 < outline_size runs) (p : Pair runs A B)
    (least : 3 ≤ length P) (room : length P ≤ size runs A + size runs B) (grid : some_beyond (numbers_of P) ≡ false)
    (v : Joined store runs A B P store' runs') where
  good₁ : Sound outline v.store₁ v.runs₁
  good₁ = left-sound outline store runs A v.store₁ v.runs₁ good p.first p.some v.first

  size₁ : size v.runs₁ B ≡ size runs B
  size₁ = second-size store runs A B p v.store₁ v.runs₁ v.first

  used₁ : 0 < size v.runs₁ B
  used₁ = omega (arith, size₁, p.more)

  good₂ : Sound outline v.store₂ v.runs₂
  good₂ = left-sound outline v.store₁ v.runs₁ B v.store₂ v.runs₂ good₁ p.second used₁ v.second

  some₂ : 0 < outline_size v.runs₂
  some₂ = omega (arith, some, v.first.outline-same, v.second.outline-same)

  free₂ : size v.runs₂ A ≡ 0
  free₂ = v.second.sizes A p.first p.differ ∙ v.first.gone

  room₂ : total v.runs₂ + length P ≤ 2048
  room₂ =
      let total₁ = first-total store runs A B p v.store₁ v.runs₁ v.first in
      let total₂ = left-total v.store₁ v.runs₁ B v.store₂ v.runs₂ p.second v.second in
      omega (arith, total₁, total₂, size₁, room, p.most)

  pub joined-sound : Sound outline store' runs'
  joined-sound = added-sound outline v.store₂ v.runs₂ A P store' runs' good₂ some₂ p.first free₂ least room₂ grid v.taken

  slots : List Slot → Register
  slots l = record { outline = (meaning outline store runs).outline; districts = l }

  pub joined-meaning : meaning outline store' runs' ≡ record { outline = (meaning outline store runs).outline; districts = set (set (meaning outline store runs).districts A (ring P)) B unused }
  unfolding slots
  joined-meaning =
      let D = (meaning outline store runs).districts in
      added-meaning outline v.store₂ v.runs₂ A P store' runs' good₂ some₂ p.first free₂ least room₂ grid v.taken
      ∙ ap (λ h. given h A P) (
      left-meaning outline v.store₁ v.runs₁ B v.store₂ v.runs₂ good₁ p.second used₁ v.second
      ∙ ap (λ h. record { outline = h.outline; districts = set h.districts B unused }) (left-meaning outline store runs A v.store₁ v.runs₁ good p.first p.some v.first))
      ∙ ap slots (
      ap (λ l. set l A (ring P)) (set_comm D A B unused unused p.differ)
      ∙ set-set (set D B unused) A unused (ring P)
      ∙ set_comm D B A unused (ring P) (λ e. p.differ (sym e)))
