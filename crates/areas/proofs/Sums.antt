-- Sums over rings: over two lists of them, and over those that pass a test and those that fail it. Assumes nothing.
use mathlib.Core.Path.{◌≡◌, refl, sym, ap, ◌∙◌}
use mathlib.Core.Bool.{Bool, true, false, not}
use mathlib.Core.List.{List, [], ◌∷◌, ◌++◌}
use lib.IntN.{ℤ, ◌+ℤ◌, +ℤ_assoc, +ℤ_comm, +ℤ_idl}
use Rattle.ring.specs.declared.Point.{Point}
use Rattle.ring.specs.Choices.{pick}
use Rattle.ring.specs.Turns.{winding}
use Rattle.areas.specs.Areas.{sum_over, winding_about, passing}

pub sum-append : (f : List Point → ℤ) (Ps Qs : List (List Point)) → sum_over f (Ps ++ Qs) ≡ sum_over f Ps +ℤ sum_over f Qs
unfolding sum_over
sum-append f [] Qs = sym (+ℤ_idl (sum_over f Qs))
sum-append f (P ∷ Ps) Qs = ap (λ (z : ℤ). f P +ℤ z) (sum-append f Ps Qs) ∙ sym (+ℤ_assoc (f P) (sum_over f Ps) (sum_over f Qs))

pub winding-append : (Ps Qs : List (List Point)) (R : Point) → winding_about (Ps ++ Qs) R ≡ winding_about Ps R +ℤ winding_about Qs R
unfolding winding_about
winding-append Ps Qs R = sum-append (λ P. winding P R) Ps Qs

-- the rings that fail a test
abbrev pub failing : (List Point → Bool) → List (List Point) → List (List Point)
failing p Ps = passing (λ P. not (p P)) Ps

pub sum-passing : (f : List Point → ℤ) (p : List Point → Bool) (Ps : List (List Point)) → sum_over f (passing p Ps) +ℤ sum_over f (failing p Ps) ≡ sum_over f Ps
unfolding sum_over passing
sum-passing f p [] = refl
sum-passing f p (P ∷ Ps) = one (p P) ∙ ap (λ (z : ℤ). f P +ℤ z) (sum-passing f p Ps)
  where
    left : ℤ
    left = sum_over f (passing p Ps)

    right : ℤ
    right = sum_over f (failing p Ps)

    one : (b : Bool) → sum_over f (pick b (P ∷ passing p Ps) (passing p Ps)) +ℤ sum_over f (pick (not b) (P ∷ failing p Ps) (failing p Ps)) ≡ f P +ℤ (left +ℤ right)
    one true = +ℤ_assoc (f P) left right
    one false = sym (+ℤ_assoc left (f P) right) ∙ ap (λ (z : ℤ). z +ℤ right) (+ℤ_comm left (f P)) ∙ +ℤ_assoc (f P) left right
