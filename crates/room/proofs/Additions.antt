-- The lists after a ring was written behind all rings: well-formed, with that ring under its number. Assumes nothing.
use Prim.Native.Nat.{ℕ, ◌+◌, ◌≤◌, ◌<◌}
use mathlib.Core.Path.{◌≡◌, refl, sym, ap, transport, ◌∙◌}
use mathlib.Core.Bool.{false}
use mathlib.Core.List.{List}
use lib.ListN.{length, set}
use Rattle.ring.specs.declared.Point.{Point}
use Rattle.ring.specs.Grid.{some_beyond}
use Rattle.districts.specs.Register.{ring, Register}
use Rattle.districts.specs.Lists.{outline_size, size, meaning}
use Rattle.districts.specs.WellFormed.{total}
use Rattle.room.specs.Writing.{numbers_of, Added}
use Rattle.room.proofs.Forms.{Sound}
use Rattle.room.proofs.Entering.{entered-outline, entered-sound, entered-meaning}

-- a number is given a slot
abbrev pub given : Register → ℕ → List Point → Register
given g e P = record { outline = g.outline; districts = set g.districts e (ring P) }

module _ (outline store : List Point) (runs : List ℕ) (e : ℕ) (P : List Point) (store' : List Point) (runs' : List ℕ)
    (good : Sound outline store runs) (some : 0 < outline_size runs) (below : e < 64) (free : size runs e ≡ 0)
    (least : 3 ≤ length P) (room : total runs + length P ≤ 2048) (grid : some_beyond (numbers_of P) ≡ false)
    (a : Added store runs e P store' runs') where
  pub added-sound : Sound outline store' runs'
  added-sound = transport (λ i. Sound outline (sym a.0 i) (sym a.1 i)) (entered-sound outline store runs e (length P) P good some below free refl least room grid)

  pub added-meaning : meaning outline store' runs' ≡ given (meaning outline store runs) e P
  added-meaning =
      (λ i. meaning outline (a.0 i) (a.1 i))
      ∙ entered-meaning outline store runs e (length P) P good some below free refl least room grid

  pub added-outline : outline_size runs' ≡ outline_size runs
  added-outline = ap outline_size a.1 ∙ entered-outline runs e (total runs) (length P) good.runs-length below
