-- An area without lakes: a point lies to it as to its one ring, and the winding number is that about the ring. Assumes nothing.
use mathlib.Core.Path.{◌≡◌, refl, ap}
use mathlib.Core.List.{List, [], ◌∷◌}
use lib.IntN.{pos, +ℤ_idl, +ℤ_idr}
use Rattle.ring.specs.declared.Point.{Point}
use Rattle.ring.specs.Turns.{winding}
use Rattle.ring.specs.Locate as Locate
use Rattle.ring.specs.Locate.{Place, located_on}
use Rattle.areas.specs.Areas.{sum_over, winding_about, Lie, on, off, after_ring, lies_from, lies_in}

-- where a point lies to an area whose one ring is ring 0, by where it lies to that ring. (No ring is refused.)
abbrev pub lie_by : Place → Lie
lie_by (Locate.on t) = on 0 t
lie_by (Locate.off w o) = off w
lie_by (Locate.refused n) = off (pos 0)

pub one-ring : (P : List Point) (R : Point) → lies_in (P ∷ []) R ≡ lie_by (located_on P R)
unfolding lies_from
one-ring P R = go (located_on P R)
  where
    go : (p : Place) → after_ring 0 (pos 0) p off ≡ lie_by p
    go (Locate.on t) = refl
    go (Locate.off w o) = ap off (+ℤ_idl w)
    go (Locate.refused n) = refl

pub one-winding : (P : List Point) (R : Point) → winding_about (P ∷ []) R ≡ winding P R
unfolding winding_about sum_over
one-winding P R = +ℤ_idr (winding P R)
