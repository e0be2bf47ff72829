-- docs/RULES.md, "Known points": those of one ring, a row each. That the definitions give these answers is one theorem, proofs/Known.antt. Assumes nothing.
use Rattle.std.specs.Prelude.{true, false, List, [], ◌∷◌, ◌++◌, ℤ, pos, negsuc}
use Rattle.ring.specs.Locate.{Place, vertex, edge, on, off}

-- a ring, a point, and where the point lies
pub record Row : Type 0 where
  pub ring : List ℤ
  pub x : ℤ
  pub y : ℤ
  pub lies : Place

abbrev pub square : List ℤ
square = pos 0 ∷ pos 0 ∷ pos 4 ∷ pos 0 ∷ pos 4 ∷ pos 4 ∷ pos 0 ∷ pos 4 ∷ []

abbrev pub backwards : List ℤ
backwards = pos 0 ∷ pos 4 ∷ pos 4 ∷ pos 4 ∷ pos 4 ∷ pos 0 ∷ pos 0 ∷ pos 0 ∷ []

abbrev pub bow_tie : List ℤ
bow_tie = pos 0 ∷ pos 0 ∷ pos 4 ∷ pos 4 ∷ pos 4 ∷ pos 0 ∷ pos 0 ∷ pos 4 ∷ []

abbrev pub dot : List ℤ
dot = pos 1 ∷ pos 1 ∷ pos 1 ∷ pos 1 ∷ pos 1 ∷ pos 1 ∷ []

abbrev pub flat : List ℤ
flat = pos 0 ∷ pos 0 ∷ pos 4 ∷ pos 0 ∷ pos 2 ∷ pos 0 ∷ []

-- the corner (4,0) twice
abbrev pub doubled : List ℤ
doubled = pos 0 ∷ pos 0 ∷ pos 4 ∷ pos 0 ∷ pos 4 ∷ pos 0 ∷ pos 4 ∷ pos 4 ∷ pos 0 ∷ pos 4 ∷ []

-- out from (4,0) to (7,0) and back
abbrev pub spike : List ℤ
spike = pos 0 ∷ pos 0 ∷ pos 4 ∷ pos 0 ∷ pos 7 ∷ pos 0 ∷ pos 4 ∷ pos 0 ∷ pos 4 ∷ pos 4 ∷ pos 0 ∷ pos 4 ∷ []

abbrev pub known : List Row
known =
    record { ring = square; x = pos 2; y = pos 2; lies = off (pos 1) true }
    ∷ record { ring = square; x = pos 5; y = pos 2; lies = off (pos 0) false }
    ∷ record { ring = square; x = pos 4; y = pos 4; lies = on (vertex 2 2) }
    ∷ record { ring = square; x = pos 4; y = pos 1; lies = on (edge 1 1) }
    ∷ record { ring = square; x = pos 0; y = pos 2; lies = on (edge 3 3) }
    ∷ record { ring = backwards; x = pos 2; y = pos 2; lies = off (negsuc 0) true }
    ∷ record { ring = square ++ square; x = pos 2; y = pos 2; lies = off (pos 2) false }
    ∷ record { ring = square ++ square; x = pos 4; y = pos 4; lies = on (vertex 2 6) }
    ∷ record { ring = square ++ square; x = pos 0; y = pos 2; lies = on (edge 3 7) }
    ∷ record { ring = bow_tie; x = pos 3; y = pos 2; lies = off (negsuc 0) true }
    ∷ record { ring = bow_tie; x = pos 1; y = pos 2; lies = off (pos 1) true }
    ∷ record { ring = bow_tie; x = pos 2; y = pos 2; lies = on (edge 0 2) }
    ∷ record { ring = dot; x = pos 1; y = pos 1; lies = on (vertex 0 2) }
    ∷ record { ring = dot; x = pos 0; y = pos 0; lies = off (pos 0) false }
    ∷ record { ring = flat; x = pos 3; y = pos 0; lies = on (edge 0 1) }
    ∷ record { ring = doubled; x = pos 4; y = pos 0; lies = on (vertex 1 2) }
    ∷ record { ring = spike; x = pos 6; y = pos 0; lies = on (edge 1 2) }
    ∷ record { ring = spike; x = pos 4; y = pos 0; lies = on (vertex 1 3) }
    ∷ []
