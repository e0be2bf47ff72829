-- Ring sums: what is added up over the edges of a ring, for any weight of an edge. Indices wrap round the ring. Assumes nothing.
use Rattle.std.specs.Prelude.{ℕ, zero, suc, ◌%◌, ◌≡◌, List, length, get_or, ℤ, pos, neg_ℤ, ◌+ℤ◌}
use Rattle.ring.specs.declared.Point.{Point}
use Rattle.ring.specs.Grid.{point}

-- Pi, the index wrapping round the ring
unfoldable pub at : List Point → ℕ → Point
at P i = get_or P (i % length P) (point (pos 0) (pos 0))

-- what an edge from the first point to the second weighs
abbrev pub Weight : Type 0
Weight = Point → Point → ℤ

-- an edge and its reverse cancel
abbrev pub Antisymmetric : Weight → Type 0
Antisymmetric f = (P Q : Point) → f Q P ≡ neg_ℤ (f P Q)

-- the weights of the first k edges of the points s 0, s 1, s 2, ..
unfoldable pub total : Weight → (ℕ → Point) → ℕ → ℤ
total f s zero = pos 0
total f s (suc k) = total f s k +ℤ f (s k) (s (suc k))

-- the weights of all edges of a ring, the closing one among them: edge n - 1 runs from P(n - 1) to Pn, which is P0
unfoldable pub ring_sum : Weight → List Point → ℤ
ring_sum f P = total f (at P) (length P)
