-- What was met and what was counted settle the rules' answer. Assumes nothing.
use Prim.Native.Nat.{ℕ, suc, ◌-◌, ◌≤◌, ◌<◌}
use native.Mathlib.Nat.{zero-add, le_refl}
use native.Mathlib.Omega.{arith}
use mathlib.Core.Path.{◌≡◌, refl, sym, ap, ◌∙◌}
use mathlib.Core.Bool.{Bool, true, false}
use mathlib.Core.List.{List}
use lib.Dec.{ltb}
use lib.ListN.{length, take}
use lib.Seq.{take_all}
use lib.IntN.{ℤ}
use borrow.Author.Tests.{le-ltb, ltb-false}
use Rattle.std.specs.Prelude.{Option, Some, None}
use Rattle.ring.specs.declared.Point.{Point}
use Rattle.ring.specs.declared.counting.Count.{Count}
use Rattle.ring.specs.declared.Touch as Code
use Rattle.ring.specs.declared.Touch.TheVariants.{Vertex, Edge}
use Rattle.ring.specs.Choices.{pick}
use Rattle.ring.specs.Rings.{at}
use Rattle.ring.specs.Turns.{winding, oddly}
use Rattle.ring.specs.Locate.{Place, vertex, edge, on, off, lowest, highest, at_vertex, on_edge, touching, located_on}
use Rattle.ring.specs.Walk.{Counted, met_at, or_else}
use Rattle.ring.proofs.Pick.{pick-false}
use Rattle.ring.proofs.Search.{lowest-over, Unmet, unmet-all}
use Rattle.ring.proofs.Crossings.{end-off}

-- the part of a list that is all of it
pub part-whole : (xs : List ℤ) (k : ℕ) → length xs ≤ k → take (k - 0) xs ≡ xs
part-whole xs k h = take_all (k - 0) xs (omega arith)

-- a point that no edge holds is off the ring
pub off-ring : (P : List Point) (R : Point) → Unmet (on_edge P R) (length P) → located_on P R ≡ off (winding P R) (oddly (winding P R))
unfolding located_on
off-ring P R free =
    pick-false (past (at_vertex P R) (λ j l. (end-off R (at P j) (at P (suc j)) (free j l)).0)) _ _ ∙ pick-false (past (on_edge P R) free) _ _
  where
    past : (p : ℕ → Bool) → Unmet p (length P) → ltb (lowest p (length P) 0) (length P) ≡ false
    past p u = le-ltb (lowest p (length P) 0) (length P) (omega (arith, unmet-all p (length P) (length P) (le_refl (length P)) u))

module _ (P : List Point) (R : Point) (c : Count) (counted : Counted P R c) where
  -- the count of a point that no edge holds
  off-counted : Unmet (on_edge P R) (length P) → off c.turns (oddly c.turns) ≡ off (winding P R) (oddly (winding P R))
  off-counted free = let turns = counted.turns (λ j l. ap (on_edge P R) (zero-add j) ∙ free j l) in (λ i. off (turns i) (oddly (turns i)))

  -- no determinant was 0
  pub clear-off : 0 < c.clear → off c.turns (oddly c.turns) ≡ located_on P R
  clear-off h = let free : Unmet (on_edge P R) (length P) = λ j l. ap (on_edge P R) (sym (zero-add j)) ∙ counted.clear h j l in off-counted free ∙ sym (off-ring P R free)

  -- what is answered where the point was met, or was not
  pub settled : (m : Option Code.Touch) → m ≡ met_at P R → or_else m (off c.turns (oddly c.turns)) ≡ located_on P R
  unfolding located_on
  settled m same = ap (λ m. or_else m (off c.turns (oddly c.turns))) same ∙ first (ltb v n)
    where
      n : ℕ
      n = length P

      v : ℕ
      v = lowest (at_vertex P R) n 0

      e : ℕ
      e = lowest (on_edge P R) n 0

      otherwise : Place
      otherwise = off (winding P R) (oddly (winding P R))

      second : (b : Bool) → ltb e n ≡ b → or_else (pick b (Some (Edge e (highest (on_edge P R) n))) None) (off c.turns (oddly c.turns)) ≡ pick b (on (edge e (highest (on_edge P R) n))) otherwise
      second true s = refl
      second false s = off-counted (lowest-over (on_edge P R) n (ltb-false e n s))

      first : (b : Bool) → or_else (pick b (Some (Vertex v (highest (at_vertex P R) n))) (pick (ltb e n) (Some (Edge e (highest (on_edge P R) n))) None)) (off c.turns (oddly c.turns))
          ≡ pick b (on (vertex v (highest (at_vertex P R) n))) (touching edge n e (highest (on_edge P R) n) otherwise)
      first true = refl
      first false = second (ltb e n) refl
