-- Areas: an outer ring and its lakes, in order, the outer one being ring 0; how a list holds them, the winding number about one, and where a point lies to one. Assumes nothing.
use Rattle.std.specs.Prelude.{ℕ, zero, suc, ◌+◌, Bool, List, [], ◌∷◌, ℤ, pos, ◌+ℤ◌, take, drop}
use Rattle.ring.specs.declared.Point.{Point}
use Rattle.ring.specs.Choices.{pick}
use Rattle.ring.specs.Turns.{winding}
use Rattle.ring.specs.Locate as Locate
use Rattle.ring.specs.Locate.{Touch, Place, located_on, touch_of}
use Rattle.areas.specs.declared.Lying.{Lying}
use Rattle.areas.specs.declared.Lying.TheVariants.{On, Off}

-- ---- how a list holds the rings of an area

-- the parts of a list, one after the other, as long as the sizes say
unfoldable pub parts : {A : Type 0} → List ℕ → List A → List (List A)
parts [] l = []
parts (n ∷ ns) l = take n l ∷ parts ns (drop n l)

-- the sizes in front of the first 0: a 0 says that no further ring follows
unfoldable pub given : List ℕ → List ℕ
given [] = []
given (zero ∷ ns) = []
given (suc n ∷ ns) = suc n ∷ given ns

-- ---- sums over rings

-- what the rings weigh together, for any weight of a ring
unfoldable pub sum_over : (List Point → ℤ) → List (List Point) → ℤ
sum_over f [] = pos 0
sum_over f (P ∷ Ps) = f P +ℤ sum_over f Ps

-- the winding number about an area: the sum over its rings
unfoldable pub winding_about : List (List Point) → Point → ℤ
winding_about Ps R = sum_over (λ P. winding P R) Ps

-- the rings that pass a test, in their order
unfoldable pub passing : (List Point → Bool) → List (List Point) → List (List Point)
passing p [] = []
passing p (P ∷ Ps) = pick (p P) (P ∷ passing p Ps) (passing p Ps)

-- ---- where a point lies to an area

-- on a ring (its number, and where on it), or off all of them, with the winding number
pub data Lie : Type 0 where
  on : ℕ → Touch → Lie
  off : ℤ → Lie

-- by where R lies to ring k: on it, or by the rings behind it, with the winding number about all up to ring k. (No ring is refused: `located_on` says on or off.)
abbrev pub after_ring : ℕ → ℤ → Place → (ℤ → Lie) → Lie
after_ring k w (Locate.on t) behind = on k t
after_ring k w (Locate.off v o) behind = behind (w +ℤ v)
after_ring k w (Locate.refused n) behind = behind w

-- by the rings from number k on, the first that holds R deciding; w is the winding number about those before
unfoldable pub lies_from : ℕ → ℤ → List (List Point) → Point → Lie
lies_from k w [] R = off w
lies_from k w (P ∷ Ps) R = after_ring k w (located_on P R) (λ v. lies_from (k + 1) v Ps R)

abbrev pub lies_in : List (List Point) → Point → Lie
lies_in Ps R = lies_from 0 (pos 0) Ps R

-- what the code's enum says
abbrev pub lie_of : Lying → Lie
lie_of (On k t) = on k (touch_of t)
lie_of (Off w) = off w.0
