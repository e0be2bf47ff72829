-- The rules' answer to where a point lies, with the numbers of its refusals, and how the code's enums say it. Assumes nothing.
use Rattle.std.specs.Prelude.{ℕ, zero, suc, ◌/◌, Bool, true, false, ◌||◌, List, ltb, length, ℤ, Result, Ok, Err}
use Rattle.ring.specs.declared.Point.{Point}
use Rattle.ring.specs.declared.Parity.{Parity}
use Rattle.ring.specs.declared.Parity.TheVariants.{Even, Odd}
use Rattle.refusals.specs.declared.Refusal.{Refusal}
use Rattle.refusals.specs.Numbers.{number_of}
use Rattle.ring.specs.declared.Place as CodePlace
use Rattle.ring.specs.declared.Place.TheVariants.{On, Off}
use Rattle.ring.specs.declared.Touch as CodeTouch
use Rattle.ring.specs.declared.Touch.TheVariants.{Vertex, Edge}
use Rattle.ring.specs.Grid.{point, beyond, some_beyond, vertices, no_ring}
use Rattle.ring.specs.Choices.{pick}
use Rattle.ring.specs.Rings.{at}
use Rattle.ring.specs.Segment.{same, on_segment}
use Rattle.ring.specs.Turns.{winding, oddly}

-- where a point is on a ring: the lowest and the highest index of the vertices that equal it, or else of the edges that hold it
pub data Touch : Type 0 where
  vertex edge : ℕ → ℕ → Touch

-- the rules' answers: on the ring, or off it with the winding number and whether it is odd; or a refusal's number
pub data Place : Type 0 where
  on : Touch → Place
  off : ℤ → Bool → Place
  refused : ℕ → Place

-- the lowest index, from i on with k left to look at, that passes the test; where none does, the first that is not looked at
unfoldable pub lowest : (ℕ → Bool) → ℕ → ℕ → ℕ
lowest p zero i = i
lowest p (suc k) i = pick (p i) i (lowest p k (suc i))

-- the highest index below k that passes the test; 0 where none does
unfoldable pub highest : (ℕ → Bool) → ℕ → ℕ
highest p zero = zero
highest p (suc k) = pick (p k) k (highest p k)

-- vertex i equals R
abbrev pub at_vertex : List Point → Point → ℕ → Bool
at_vertex P R i = same R (at P i)

-- R is on edge i
abbrev pub on_edge : List Point → Point → ℕ → Bool
on_edge P R i = on_segment R (at P i) (at P (suc i))

-- on the ring, at the indices that pass a test, from low to high, where there are such below n; otherwise the other place
abbrev pub touching : (ℕ → ℕ → Touch) → ℕ → ℕ → ℕ → Place → Place
touching kind n low high other = pick (ltb low n) (on (kind low high)) other

-- the vertices that equal R before the edges that hold it; otherwise off the ring
unfoldable pub located_on : List Point → Point → Place
located_on P R =
    touching vertex (length P) (lowest (at_vertex P R) (length P) 0) (highest (at_vertex P R) (length P))
    (touching edge (length P) (lowest (on_edge P R) (length P) 0) (highest (on_edge P R) (length P))
    (off (winding P R) (oddly (winding P R))))

-- of any list and any point: refusal 4, then 5, then where the point lies
unfoldable pub located : List ℤ → ℤ → ℤ → Place
located xs a b =
    pick (no_ring (length xs) (length xs / 2)) (refused 4)
    (pick (some_beyond xs || (beyond a || beyond b)) (refused 5)
    (located_on (vertices xs) (point a b)))

-- what each enum of the code says, in the rules' numbers and values
abbrev pub is_odd : Parity → Bool
is_odd Even = false
is_odd Odd = true

abbrev pub touch_of : CodeTouch.Touch → Touch
touch_of (Vertex i j) = vertex i j
touch_of (Edge i j) = edge i j

-- a place that is no refusal, and an answer, which may be one
abbrev pub lying_of : CodePlace.Place → Place
lying_of (On t) = on (touch_of t)
lying_of (Off w o) = off w.0 (is_odd o)

abbrev pub place_of : Result CodePlace.Place Refusal → Place
place_of (Ok p) = lying_of p
place_of (Err r) = refused (number_of r)
