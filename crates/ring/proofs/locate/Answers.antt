-- `ring::locate` refuses a short ring in the rules' order and otherwise answers what counting its edges tells; where some determinant was 0 it looks for places. Assumes nothing.
use Prim.Native.Nat.{◌-◌, ◌/◌, ◌%◌, ◌≤◌}
use native.Mathlib.Nat.{le_refl}
use native.Mathlib.Omega.{arith}
use mathlib.Core.Path.{◌≡◌, ap, subst, ◌∙◌}
use mathlib.Core.Bool.{Bool, false, ◌||◌}
use mathlib.Core.List.{List}
use lib.Dec.{ltb}
use lib.IntN.{ℤ}
use lib.ListN.{length, take}
use mir.Syntax.{w32}
use mir.Val.{SFits, to_z, of_z}
use borrow.Author.Tests.{eq-eqb}
use Rattle.ring.specs.declared.Point.{Point}
use Rattle.ring.specs.Grid.{point, vertices, beyond, some_beyond}
use Rattle.ring.specs.Walk.{head_of, Counted, met_at}
use Rattle.ring.proofs.OnGrid.{headed}
use Rattle.ring.proofs.Settled.{part-whole, clear-off, settled}
use Rattle.ring.proofs.Asked.{tested-beyond, located-no-ring, located-beyond, short-ring, Asked, asked}
use Rattle.ring.proofs.locate.Goals as goal

-- a short list of even length that passes the test of its numbers and the point's
short-asked : (xs : List ℤ) (a b : ℤ) {s p q : Bool} → 6 ≤ length xs → length xs ≤ 33 → (length xs % 2 ≡ 1 → ⊥) → SFits w32 a → SFits w32 b
    → s ≡ some_beyond xs → p ≡ beyond (to_z w32 (of_z w32 a)) → q ≡ beyond (to_z w32 (of_z w32 b)) → (s || (p || q)) ≡ false → Asked xs a b
short-asked xs a b least most even f g d e h t = asked xs a b (short-ring xs a b least most even) (tested-beyond xs a b f g d e h ∙ t)

pub returns-then-m-eq1 : goal.returns-then-m-eq1
returns-then-m-eq1 c =
    let m = length c.args.ring.now in
    located-no-ring c.args.ring.now c.args.x c.args.y (ap (λ (b : Bool). b || (ltb (m / 2) 3 || ltb 2048 (m / 2))) (eq-eqb (m % 2) 1 (omega (arith, c.if-m-eq1.true))))

pub returns-then-some_beyond_short-beyond : goal.returns-then-some_beyond_short-beyond
returns-then-some_beyond_short-beyond c =
    let xs = c.args.ring.now in
    let a-ring = short-ring xs c.args.x c.args.y (omega arith) (omega arith) (λ e. omega arith) in
    located-beyond xs c.args.x c.args.y a-ring (tested-beyond xs c.args.x c.args.y c.ranges.x c.ranges.y c.some_beyond_short.ensures c.beyond.ensures c.beyond-2.ensures ∙ c.if-some_beyond_short-beyond.true)

pub invariant_of-each_of_list : goal.invariant_of-each_of_list
invariant_of-each_of_list c =
    let t : Asked c.args.ring.now c.args.x c.args.y = short-asked _ _ _ (omega arith) (omega arith) (λ e. omega arith) c.ranges.x c.ranges.y c.some_beyond_short.ensures c.beyond.ensures c.beyond-2.ensures c.if-some_beyond_short-beyond.false in
    record { ring = t.ring }

pub returns-then-c-eq0 : goal.returns-then-c-eq0
returns-then-c-eq0 c =
    let xs = c.args.ring.now in
    let t : Asked xs c.args.x c.args.y = short-asked _ _ _ (omega arith) (omega arith) (λ e. omega arith) c.ranges.x c.ranges.y c.some_beyond_short.ensures c.beyond.ensures c.beyond-2.ensures c.if-some_beyond_short-beyond.false in
    let R = point c.args.x c.args.y in
    let there : head_of c.to.result ≡ R = headed c.args.x c.args.y c.to.result c.ranges.x c.ranges.y c.to.ensures in
    let again : head_of c.to-then-c-eq0.result ≡ R = headed c.args.x c.args.y c.to-then-c-eq0.result c.ranges.x c.ranges.y c.to-then-c-eq0.ensures in
    let whole : take (length xs - 0) xs ≡ xs = part-whole xs (length xs) (le_refl (length xs)) in
    let counted : Counted (vertices xs) R c.each_of_list-c.result = subst (λ (R : Point). Counted (vertices xs) R c.each_of_list-c.result) there c.each_of_list-c.ensures in
    let met : c.find.result ≡ met_at (vertices xs) R = c.find.ensures ∙ (λ i. met_at (vertices (whole i)) (again i)) in
    c.found.ensures ∙ settled (vertices xs) R c.each_of_list-c.result counted c.find.result met ∙ t.accepted

pub returns : goal.returns
returns c =
    let xs = c.args.ring.now in
    let t : Asked xs c.args.x c.args.y = short-asked _ _ _ (omega arith) (omega arith) (λ e. omega arith) c.ranges.x c.ranges.y c.some_beyond_short.ensures c.beyond.ensures c.beyond-2.ensures c.if-some_beyond_short-beyond.false in
    let R = point c.args.x c.args.y in
    let there : head_of c.to.result ≡ R = headed c.args.x c.args.y c.to.result c.ranges.x c.ranges.y c.to.ensures in
    let counted : Counted (vertices xs) R c.each_of_list-c.result = subst (λ (R : Point). Counted (vertices xs) R c.each_of_list-c.result) there c.each_of_list-c.ensures in
    c.off.ensures ∙ clear-off (vertices xs) R c.each_of_list-c.result counted (omega (arith, c.if-c-eq0.false)) ∙ t.accepted
