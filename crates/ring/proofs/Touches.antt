-- What the two indices of a point on a ring are: of the vertices that equal it, or else of the edges that hold it, the lowest and the highest. And the answer by the lowest index
-- alone follows. Assumes nothing.
use Prim.Native.Nat.{ℕ, ◌/◌, ◌≤◌, ◌<◌}
use native.Mathlib.Decide.{dec_lt}
use native.Mathlib.Omega.{arith}
use mathlib.Core.Path.{◌≡◌, refl, sym, ap, subst₂, ◌∙◌}
use mathlib.Core.Bool.{Bool, true, false, ◌||◌, true≢false}
use mathlib.Core.List.{List}
use lib.Dec.{ltb}
use lib.IntN.{ℤ}
use lib.ListN.{length}
use borrow.Author.Tests.{ltb-true, ltb-false}
use Rattle.ring.specs.declared.Point.{Point}
use Rattle.ring.specs.Grid.{point, beyond, some_beyond, vertices, no_ring}
use Rattle.ring.specs.Choices.{pick}
use Rattle.ring.specs.Turns.{winding, oddly}
use Rattle.ring.specs.Locate.{vertex, edge, Place, on, off, refused, lowest, highest, at_vertex, on_edge, located_on, located}
use Rattle.ring.proofs.Search.{lowest-is, lowest-over, highest-is, Unmet}

-- ---- both indices

-- low and high are the lowest and the highest of the indices below n that pass
pub record Extremes (p : ℕ → Bool) (n low high : ℕ) : Type 0 where
  pub first : p low ≡ true
  pub last : p high ≡ true
  pub ends : high < n
  pub others : (j : ℕ) → j < n → p j ≡ true → (low ≤ j) × (j ≤ high)

extremes : (p : ℕ → Bool) (n : ℕ) → ltb (lowest p n 0) n ≡ true → Extremes p n (lowest p n 0) (highest p n)
extremes p n e =
    let within : lowest p n 0 < n = ltb-true (lowest p n 0) n e in
    let low = lowest-is p n 0 (lowest p n 0) refl (omega (arith, within)) in
    let high = highest-is p n (lowest p n 0) within low.0 in
    record { first = low.0; last = high.1; ends = high.0; others = λ j h t. (above j t low.1, high.2 j h t) }
  where
    above : (j : ℕ) → p j ≡ true → ((k : ℕ) → 0 ≤ k → k < lowest p n 0 → p k ≡ false) → lowest p n 0 ≤ j
    above j t before = elim (dec_lt j (lowest p n 0)) [ yes less ↦ absurd (true≢false (sym t ∙ before j (omega arith) less)) | no more ↦ omega arith ]

-- what an answer is, and its indices
abbrev kind : Place → ℕ
kind (on (vertex i j)) = 0
kind (on (edge i j)) = 1
kind (off w o) = 2
kind (refused n) = 3

abbrev low : Place → ℕ
low (on (vertex i j)) = i
low (on (edge i j)) = i
low (off w o) = 0
low (refused n) = 0

abbrev high : Place → ℕ
high (on (vertex i j)) = j
high (on (edge i j)) = j
high (off w o) = 0
high (refused n) = 0

module _ (P : List Point) (R : Point) where
  abbrev chosen : Bool → Bool → Place
  chosen a b =
      pick a (on (vertex (lowest (at_vertex P R) (length P) 0) (highest (at_vertex P R) (length P))))
      (pick b (on (edge (lowest (on_edge P R) (length P) 0) (highest (on_edge P R) (length P))))
      (off (winding P R) (oddly (winding P R))))

  -- at a vertex: both are vertices that equal R
  pub vertex-extremes : (i j : ℕ) → located_on P R ≡ on (vertex i j) → Extremes (at_vertex P R) (length P) i j
  unfolding located_on
  vertex-extremes i j e = go (ltb (lowest (at_vertex P R) (length P) 0) (length P)) (ltb (lowest (on_edge P R) (length P) 0) (length P)) refl e
    where
      go : (a b : Bool) → ltb (lowest (at_vertex P R) (length P) 0) (length P) ≡ a → chosen a b ≡ on (vertex i j) → Extremes (at_vertex P R) (length P) i j
      go true b s h = subst₂ (Extremes (at_vertex P R) (length P)) (ap low h) (ap high h) (extremes (at_vertex P R) (length P) s)
      go false true s h = absurd (let f : ⊥ = omega (arith, ap kind h) in f)
      go false false s h = absurd (let f : ⊥ = omega (arith, ap kind h) in f)

  -- on an edge: both are edges that hold R, and no vertex equals it
  pub edge-extremes : (i j : ℕ) → located_on P R ≡ on (edge i j) → Extremes (on_edge P R) (length P) i j × Unmet (at_vertex P R) (length P)
  unfolding located_on
  edge-extremes i j e = go (ltb (lowest (at_vertex P R) (length P) 0) (length P)) (ltb (lowest (on_edge P R) (length P) 0) (length P)) refl refl e
    where
      go : (a b : Bool) → ltb (lowest (at_vertex P R) (length P) 0) (length P) ≡ a → ltb (lowest (on_edge P R) (length P) 0) (length P) ≡ b → chosen a b ≡ on (edge i j) → Extremes (on_edge P R) (length P) i j × Unmet (at_vertex P R) (length P)
      go true b s t h = absurd (let f : ⊥ = omega (arith, ap kind h) in f)
      go false true s t h = (subst₂ (Extremes (on_edge P R) (length P)) (ap low h) (ap high h) (extremes (on_edge P R) (length P) t), lowest-over (at_vertex P R) (length P) (ltb-false _ _ s))
      go false false s t h = absurd (let f : ⊥ = omega (arith, ap kind h) in f)

-- ---- the lowest alone

pub data First : Type 0 where
  first_vertex first_edge : ℕ → First
  off_ring : ℤ → Bool → First
  refused_by : ℕ → First

-- the highest index left out
abbrev pub first_of : Place → First
first_of (on (vertex i j)) = first_vertex i
first_of (on (edge i j)) = first_edge i
first_of (off w o) = off_ring w o
first_of (refused n) = refused_by n

-- the lowest vertex that equals R before the lowest edge that holds it; otherwise off the ring
abbrev pub first_on : List Point → Point → First
first_on P R =
    let n = length P in
    let v = lowest (at_vertex P R) n 0 in
    let e = lowest (on_edge P R) n 0 in
    pick (ltb v n) (first_vertex v) (pick (ltb e n) (first_edge e) (off_ring (winding P R) (oddly (winding P R))))

abbrev pub first_located : List ℤ → ℤ → ℤ → First
first_located xs a b =
    pick (no_ring (length xs) (length xs / 2)) (refused_by 4)
    (pick (some_beyond xs || (beyond a || beyond b)) (refused_by 5)
    (first_on (vertices xs) (point a b)))

first_on_lem : (P : List Point) (R : Point) → first_of (located_on P R) ≡ first_on P R
unfolding located_on
first_on_lem P R = go (ltb (lowest (at_vertex P R) (length P) 0) (length P)) (ltb (lowest (on_edge P R) (length P) 0) (length P))
  where
    go : (a b : Bool) → first_of (chosen P R a b) ≡ pick a (first_vertex (lowest (at_vertex P R) (length P) 0)) (pick b (first_edge (lowest (on_edge P R) (length P) 0)) (off_ring (winding P R) (oddly (winding P R))))
    go true b = refl
    go false true = refl
    go false false = refl

pub lowest-stays : (xs : List ℤ) (a b : ℤ) → first_of (located xs a b) ≡ first_located xs a b
unfolding located
lowest-stays xs a b = go (no_ring (length xs) (length xs / 2)) (some_beyond xs || (beyond a || beyond b))
  where
    go : (s t : Bool) → first_of (pick s (refused 4) (pick t (refused 5) (located_on (vertices xs) (point a b)))) ≡ pick s (refused_by 4) (pick t (refused_by 5) (first_on (vertices xs) (point a b)))
    go true t = refl
    go false true = refl
    go false false = first_on_lem (vertices xs) (point a b)
