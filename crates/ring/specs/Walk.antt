-- What the functions that go round a ring ask and promise one another; no public promise cites it. Assumes nothing.
use Rattle.std.specs.Prelude.{ℕ, ◌+◌, ◌≤◌, ◌<◌, ◌≡◌, Bool, true, false, ◌&&◌, ◌||◌, List, ltb, length, get_or, Option, Some, None, ℤ, pos, nat_abs, ◌+ℤ◌, ◌-ℤ◌}
use Rattle.std.specs.Int.Signed.{lt_z}
use Rattle.exact.specs.declared.Arrow.{Arrow}
use Rattle.exact.specs.Sign.{eq_z, Short, cross}
use Rattle.ring.specs.declared.Point.{Point}
use Rattle.ring.specs.declared.counting.End.{End}
use Rattle.ring.specs.declared.counting.Count.{Count}
use Rattle.ring.specs.declared.places.Span.{Span}
use Rattle.ring.specs.declared.Touch as Code
use Rattle.ring.specs.declared.Touch.TheVariants.{Vertex, Edge}
use Rattle.ring.specs.Grid.{point, beyond}
use Rattle.ring.specs.Choices.{pick, count}
use Rattle.ring.specs.Rings.{at, total}
use Rattle.ring.specs.Turns.{winding}
use Rattle.ring.specs.Crossings.{crossing, steps}
use Rattle.ring.specs.Segment.{between}
use Rattle.ring.specs.Locate.{Place, on, touch_of, lowest, highest, at_vertex, on_edge}

-- the point that a way from (0, 0) leads to
abbrev pub head_of : Arrow → Point
head_of a = point a.x a.y

-- a point of the grid, by the sizes of its coordinates
pub record OnGrid (p : Point) : Type 0 where
  pub across : nat_abs p.x ≤ 1_000_000_000
  pub up : nat_abs p.y ≤ 1_000_000_000

-- one of the four numbers from place i on is beyond the grid
abbrev pub four_beyond : List ℤ → ℕ → Bool
four_beyond xs i = (beyond (get_or xs i (pos 0)) || beyond (get_or xs (i + 1) (pos 0))) || (beyond (get_or xs (i + 2) (pos 0)) || beyond (get_or xs (i + 3) (pos 0)))

-- the way from one point of the grid to another
pub record Way (R P : Point) (a : Arrow) : Type 0 where
  pub x : a.x ≡ P.x -ℤ R.x
  pub y : a.y ≡ P.y -ℤ R.y
  pub short : Short a

-- the ends of two ways from R are in line with it, and it is between them
abbrev pub in_line : Arrow → Arrow → Bool
in_line a b = eq_z (cross a b) (pos 0) && (between (pos 0) a.x b.x && between (pos 0) a.y b.y)

-- more than the crossings of any ring: each edge counts 1 at most
abbrev pub most_turns : ℕ
most_turns = 4096

-- the end's mark is 1 where the way leads down, otherwise 0
abbrev pub Marked : End → Type 0
Marked e = e.low ≡ pos (count (lt_z e.way.y (pos 0)))

-- P as seen from R
pub record Sight (R P : Point) (e : End) : Type 0 where
  pub way : Way R P e.way
  pub marked : Marked e

-- v is c after the edge from one end to the other
pub record Gone (from to : End) (c v : Count) : Type 0 where
  pub turns : v.turns ≡ c.turns +ℤ steps (cross from.way to.way) (lt_z from.way.y (pos 0)) (lt_z to.way.y (pos 0))
  pub clear : v.clear ≡ pick (eq_z (cross from.way to.way) (pos 0)) 0 c.clear

-- none of the k edges from vertex i on holds R
abbrev pub Free : List Point → Point → ℕ → ℕ → Type 0
Free P R i k = (j : ℕ) → j < k → on_edge P R (i + j) ≡ false

-- v is c after the k edges from vertex i on: if none of them holds R it has their crossings more; and if it is clear, none does, and c was clear. (Where one holds R, what was
-- counted is used by nobody.)
pub record Counts (P : List Point) (R : Point) (i k : ℕ) (c v : Count) : Type 0 where
  pub turns : Free P R i k → v.turns ≡ c.turns +ℤ total (crossing R) (λ j. at P (i + j)) k
  pub clear : 0 < v.clear → (0 < c.clear) × Free P R i k
  pub few : nat_abs v.turns ≤ nat_abs c.turns + k

-- the vertices from vertex i to vertex i + k lie all on one side of R's row or column
pub data Aside (P : List Point) (R : Point) (i k : ℕ) : Type 0 where
  north : ((j : ℕ) → j ≤ k → lt_z R.y (at P (i + j)).y ≡ true) → Aside P R i k
  south : ((j : ℕ) → j ≤ k → lt_z (at P (i + j)).y R.y ≡ true) → Aside P R i k
  east : ((j : ℕ) → j ≤ k → lt_z R.x (at P (i + j)).x ≡ true) → Aside P R i k
  west : ((j : ℕ) → j ≤ k → lt_z (at P (i + j)).x R.x ≡ true) → Aside P R i k

-- the count of no edge
abbrev pub none : Count
none = record { turns = pos 0; clear = 1 }

-- the count of a whole ring
pub record Counted (P : List Point) (R : Point) (c : Count) : Type 0 where
  pub turns : Free P R 0 (length P) → c.turns ≡ winding P R
  pub clear : 0 < c.clear → Free P R 0 (length P)
  pub few : nat_abs c.turns ≤ most_turns

-- the lowest of the indices below n that pass a test, if some do
abbrev pub first_met : (ℕ → Bool) → ℕ → Option ℕ
first_met p n = pick (ltb (lowest p n 0) n) (Some (lowest p n 0)) None

-- the lowest and the highest of them
abbrev pub spanned : (ℕ → Bool) → ℕ → Option Span
spanned p n = pick (ltb (lowest p n 0) n) (Some (record { lowest = lowest p n 0; highest = highest p n })) None

-- some indices, and one above them, if it passes a test
abbrev pub with_edge : Bool → ℕ → Option Span → Option Span
with_edge false e met = met
with_edge true e None = Some (record { lowest = e; highest = e })
with_edge true e (Some s) = Some (record { lowest = s.lowest; highest = e })

-- the vertices that equal R, or else the edges that hold it
abbrev pub met_at : List Point → Point → Option Code.Touch
met_at P R =
    pick (ltb (lowest (at_vertex P R) (length P) 0) (length P)) (Some (Vertex (lowest (at_vertex P R) (length P) 0) (highest (at_vertex P R) (length P))))
    (pick (ltb (lowest (on_edge P R) (length P) 0) (length P)) (Some (Edge (lowest (on_edge P R) (length P) 0) (highest (on_edge P R) (length P)))) None)

-- on the ring where it was met, or else the other place
abbrev pub or_else : Option Code.Touch → Place → Place
or_else (Some t) other = on (touch_of t)
or_else None other = other
