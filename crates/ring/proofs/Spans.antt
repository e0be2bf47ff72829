-- The lowest and the highest of the indices that pass a test, noted one after the other: of one more, and of all. And the test of an edge, made on the ways to its
-- ends. Assumes nothing.
use Prim.Native.Nat.{ℕ, ◌+◌, ◌<◌}
use native.Mathlib.Nat.{le_refl}
use native.Mathlib.Numerals.{add-one}
use native.Mathlib.Omega.{arith}
use mathlib.Core.Path.{◌≡◌, sym, ap, ◌∙◌}
use mathlib.Core.Bool.{Bool, true, false, ◌&&◌}
use mathlib.Core.List.{List}
use lib.IntN.{pos}
use borrow.Author.Tests.{lt-ltb, le-ltb}
use Rattle.std.specs.Prelude.{Option, Some, None}
use Rattle.exact.specs.declared.Arrow.{Arrow}
use Rattle.exact.specs.Sign.{eq_z}
use Rattle.ring.specs.declared.Point.{Point}
use Rattle.ring.specs.declared.places.Span.{Span}
use Rattle.ring.specs.Rings.{at}
use Rattle.ring.specs.Turns.{determinant}
use Rattle.ring.specs.Segment.{between, on_segment}
use Rattle.ring.specs.Locate.{lowest, highest, on_edge}
use Rattle.ring.specs.Walk.{Way, in_line, spanned, with_edge}
use Rattle.ring.proofs.OnGrid.{way-determinant}
use Rattle.ring.proofs.Quadrants.{between-seen}
use Rattle.ring.proofs.Pick.{pick_true, pick-false}
use Rattle.ring.proofs.Search.{Unmet, unmet-more, unmet-all, lowest-first, highest-hit, highest-miss}

-- of the indices below i that pass, s is the lowest and the highest; where none does, it is none
abbrev pub Spans : (ℕ → Bool) → ℕ → Option Span → Type 0
Spans p i None = Unmet p i
Spans p i (Some s) = (s.lowest < i) × (p s.lowest ≡ true) × Unmet p s.lowest × (s.highest ≡ highest p i)

-- b is the test of i
spans-more : (p : ℕ → Bool) (i : ℕ) (b : Bool) (met : Option Span) → b ≡ p i → Spans p i met → Spans p (i + 1) (with_edge b i met)
spans-more p i false None e u = unmet-more p i (sym e) u
spans-more p i false (Some s) e (low, here, before, high) = (omega arith, here, before, high ∙ sym (highest-miss p i (sym e)) ∙ ap (highest p) (sym (add-one i)))
spans-more p i true None e u = (omega arith, sym e, u, sym (highest-hit p i (sym e)) ∙ ap (highest p) (sym (add-one i)))
spans-more p i true (Some s) e (low, here, before, high) = (omega arith, here, before, sym (highest-hit p i (sym e)) ∙ ap (highest p) (sym (add-one i)))

pub spans_all : (p : ℕ → Bool) (n : ℕ) (met : Option Span) → Spans p n met → met ≡ spanned p n
spans_all p n None u = sym (pick-false (le-ltb (lowest p n 0) n (omega (arith, unmet-all p n n (le_refl n) u))) _ _)
spans_all p n (Some s) (low, here, before, high) =
    let first : lowest p n 0 ≡ s.lowest = lowest-first p n s.lowest before low here in
    (λ k. Some (record { lowest = sym first k; highest = high k })) ∙ sym (pick_true (lt-ltb (lowest p n 0) n (omega (arith, first))) _ _)

way-holds : (R P Q : Point) (a b : Arrow) → Way R P a → Way R Q b → in_line a b ≡ on_segment R P Q
unfolding on_segment
way-holds R P Q a b p q =
    (λ i. eq_z (way-determinant R P Q a b p q i) (pos 0) && (between (pos 0) (p.x i) (q.x i) && between (pos 0) (p.y i) (q.y i)))
    ∙ (λ i. eq_z (determinant R P Q) (pos 0) && (between-seen R.x P.x Q.x i && between-seen R.y P.y Q.y i))

-- one more edge, looked at from the ways to its ends
pub spans-edge : (P : List Point) (R : Point) (e : ℕ) (met : Option Span) (from to : Arrow) → Way R (at P e) from → Way R (at P (e + 1)) to
    → Spans (on_edge P R) e met → Spans (on_edge P R) (e + 1) (with_edge (in_line from to) e met)
spans-edge P R e met from to a b l =
    spans-more (on_edge P R) e (in_line from to) met (way-holds R (at P e) (at P (e + 1)) from to a b ∙ ap (λ (k : ℕ). on_segment R (at P e) (at P k)) (add-one e)) l
