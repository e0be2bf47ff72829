-- docs/RULES.md, "The register": the register after a split and after a merge.
-- Assumes nothing.
use Rattle.std.specs.Prelude.{ℕ, List, set}
use Rattle.ring.specs.declared.Point.{Point}
use Rattle.districts.specs.Register.{unused, ring, Register, slot, vertices_of}
use Rattle.judging.specs.Splitting.{piece_one, piece_two, lowest_unused}
use Rattle.judging.specs.Merging.{merged}

-- piece one keeps number d, piece two takes the lowest unused number
unfoldable pub split : Register → ℕ → ℕ → ℕ → List Point → Register
split g d i j W = record {
  outline = g.outline;
  districts = set (set g.districts d (ring (piece_one (vertices_of (slot g d)) i j W))) (lowest_unused g) (ring (piece_two (vertices_of (slot g d)) i j W));
}

-- the result keeps A's number; B's becomes unused
unfoldable pub merge : Register → ℕ → ℕ → ℕ → ℕ → ℕ → Register
merge g A a B b k = record {
  outline = g.outline;
  districts = set (set g.districts A (ring (merged (vertices_of (slot g A)) a (vertices_of (slot g B)) b k))) B unused;
}
