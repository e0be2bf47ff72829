-- The lists after a district was divided: well-formed, with piece one under its number and piece two under a number that was unused.
-- Assumes nothing.
use Prim.Native.Nat.{ℕ, ◌+◌, ◌≤◌, ◌<◌}
use native.Mathlib.Omega.{arith}
use mathlib.Core.Path.{◌≡◌, ap, ◌∙◌}
use mathlib.Core.Bool.{false}
use mathlib.Core.List.{List}
use lib.ListN.{length}
use lib.Seq.{set-set}
use Rattle.ring.specs.declared.Point.{Point}
use Rattle.ring.specs.Grid.{some_beyond}
use Rattle.districts.specs.Register.{unused, ring, Register}
use Rattle.districts.specs.Lists.{outline_size, size, meaning}
use Rattle.districts.specs.WellFormed.{total}
use Rattle.room.specs.Writing.{numbers_of}
use Rattle.changes.specs.Performing.{Divided}
use Rattle.room.proofs.Entering.{entered-other-size, added-total}
use Rattle.room.proofs.Additions.{given, added-sound, added-meaning, added-outline}
use Rattle.room.proofs.Forms.{Sound}
use Rattle.room.proofs.Leaving.{left-total, left-sound, left-meaning}

module _ (outline store : List Point) (runs : List ℕ) (d e : ℕ) (one two : List Point) (store' : List Point) (runs' : List ℕ)
    (good : Sound outline store runs) (some : 0 < outline_size runs)
    (below : d < 64) (used : 0 < size runs d) (other : e < 64) (free : size runs e ≡ 0)
    (least : (3 ≤ length one) × (3 ≤ length two)) (room : total runs + length one + length two ≤ 2048 + size runs d)
    (grid : (some_beyond (numbers_of one) ≡ false) × (some_beyond (numbers_of two) ≡ false))
    (v : Divided store runs d e one two store' runs') where
  g : Register
  g = meaning outline store runs

  differ : e ≡ d → ⊥
  differ f = let same : size runs e ≡ size runs d = ap (size runs) f in omega (arith, used, free)

  good₁ : Sound outline v.store₁ v.runs₁
  good₁ = left-sound outline store runs d v.store₁ v.runs₁ good below used v.left

  total₁ : total v.runs₁ + size runs d ≡ total runs
  total₁ = left-total store runs d v.store₁ v.runs₁ below v.left

  some₁ : 0 < outline_size v.runs₁
  some₁ = omega (arith, v.left.outline-same)

  room₁ : total v.runs₁ + length one ≤ 2048
  room₁ = omega (arith, total₁, room)

  good₂ : Sound outline v.store₂ v.runs₂
  good₂ = added-sound outline v.store₁ v.runs₁ d one v.store₂ v.runs₂ good₁ some₁ below v.left.gone least.0 room₁ grid.0 v.first

  total₂ : total v.runs₂ ≡ total v.runs₁ + length one
  total₂ = added-total v.store₁ v.runs₁ d one v.store₂ v.runs₂ v.left.long-runs below v.left.gone v.first

  some₂ : 0 < outline_size v.runs₂
  some₂ = omega (arith, some₁, added-outline outline v.store₁ v.runs₁ d one v.store₂ v.runs₂ good₁ some₁ below v.left.gone least.0 room₁ grid.0 v.first)

  free₂ : size v.runs₂ e ≡ 0
  free₂ =
      ap (λ l. size l e) v.first.1
      ∙ entered-other-size v.runs₁ d (total v.runs₁) (length one) v.left.long-runs below e differ
      ∙ v.left.sizes e other differ
      ∙ free

  room₂ : total v.runs₂ + length two ≤ 2048
  room₂ = omega (arith, total₁, total₂, room)

  pub divided-sound : Sound outline store' runs'
  divided-sound = added-sound outline v.store₂ v.runs₂ e two store' runs' good₂ some₂ other free₂ least.1 room₂ grid.1 v.second

  pub divided-meaning : meaning outline store' runs' ≡ given (given (meaning outline store runs) d one) e two
  unfolding g
  divided-meaning =
      added-meaning outline v.store₂ v.runs₂ e two store' runs' good₂ some₂ other free₂ least.1 room₂ grid.1 v.second
      ∙ ap (λ h. given h e two) (
      added-meaning outline v.store₁ v.runs₁ d one v.store₂ v.runs₂ good₁ some₁ below v.left.gone least.0 room₁ grid.0 v.first
      ∙ ap (λ h. given h d one) (left-meaning outline store runs d v.store₁ v.runs₁ good below used v.left)
      ∙ (λ i. record { outline = g.outline; districts = set-set g.districts d unused (ring one) i }))
