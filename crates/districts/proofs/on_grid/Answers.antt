-- `districts::on_grid` asks both numbers at one place after the other. The invariant: the first i of both columns were asked. Assumes nothing.
use Prim.Native.Nat.{ℕ, ◌+◌, ◌<◌}
use native.Mathlib.Numerals.{add-one}
use native.Mathlib.Omega.{arith}
use mathlib.Core.Path.{◌≡◌, refl, sym, ap, ◌∙◌}
use mathlib.Core.Bool.{Bool, true, false, not, ◌&&◌, ◌||◌, or-false, or_assoc}
use mathlib.Core.List.{List, [], ◌∷◌, ◌++◌}
use lib.IntN.{ℤ, pos}
use lib.ListN.{length, get_or, take}
use lib.Seq.{take-suc}
use mir.Syntax.{w32}
use mir.Val.{SFits}
use mir.Facts.{to_z-of_z}
use borrow.Author.Rules.{rules}
use Rattle.ring.specs.Grid.{beyond, some_beyond}
use Rattle.districts.specs.WellFormed.{within}
use Rattle.districts.proofs.on_grid.Goals as goal

last-beyond : (xs : List ℤ) (x : ℤ) → some_beyond (xs ++ (x ∷ [])) ≡ (some_beyond xs || beyond x)
last-beyond [] x = or-false (beyond x)
last-beyond (y ∷ xs) x = ap (λ (b : Bool). beyond y || b) (last-beyond xs x) ∙ sym (or_assoc (beyond y) (some_beyond xs) (beyond x))

one_more : (xs : List ℤ) (i : ℕ) → i < length xs → some_beyond (take (i + 1) xs) ≡ (some_beyond (take i xs) || beyond (get_or xs i (pos 0)))
one_more xs i h = ap (λ k. some_beyond (take k xs)) (add-one i) ∙ ap some_beyond (take-suc xs i (pos 0) h) ∙ last-beyond (take i xs) (get_or xs i (pos 0))

neither : (a b p q : Bool) → ((not a && not b) && not (p || q)) ≡ (not (a || p) && not (b || q))
neither true b p q = refl
neither false true true q = refl
neither false true false q = refl
neither false false true q = refl
neither false false false q = refl

within_more : (xs ys : List ℤ) (i : ℕ) → i < length xs → i < length ys → (within xs ys i && not (beyond (get_or xs i (pos 0)) || beyond (get_or ys i (pos 0)))) ≡ within xs ys (i + 1)
within_more xs ys i h k =
    neither (some_beyond (take i xs)) (some_beyond (take i ys)) (beyond (get_or xs i (pos 0))) (beyond (get_or ys i (pos 0)))
    ∙ sym (λ t. not (one_more xs i h t) && not (one_more ys i k t))

pub loop-i-preserved : goal.loop-i-preserved
loop-i-preserved c =
    let a = c.args in
    let i = c.loop-i.i in
    let f : SFits w32 (get_or a.xs.now i (pos 0)) = search rules in
    let g : SFits w32 (get_or a.ys.now i (pos 0)) = search rules in
    let x = c.beyond.ensures ∙ ap beyond (to_z-of_z f) in
    let y = c.beyond-in-loop-i.ensures ∙ ap beyond (to_z-of_z g) in
    (λ t. c.loop-i.invariant t && not (x t || y t))
    ∙ within_more a.xs.now a.ys.now i (omega (arith, c.loop-i-test.true, c.requires)) (omega (arith, c.loop-i-test.true, c.requires))
