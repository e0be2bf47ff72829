-- No second outcome fits: an answer of the code that says where the point lies is the only one that does. Assumes nothing.
use mathlib.Core.Path.{◌≡◌, refl, sym, ap, ◌∙◌}
use mathlib.Core.List.{List}
use lib.IntN.{ℤ}
use Rattle.std.specs.Prelude.{Result, Ok, Err}
use Rattle.ring.specs.declared.Parity.TheVariants.{Even, Odd}
use Rattle.refusals.proofs.Numbers.{refusal_of, refusal-back}
use Rattle.refusals.specs.declared.Refusal.{Refusal}
use Rattle.ring.specs.declared.Place as CodePlace
use Rattle.ring.specs.declared.Place.TheVariants.{On, Off}
use Rattle.ring.specs.declared.Touch as CodeTouch
use Rattle.ring.specs.declared.Touch.TheVariants.{Vertex, Edge}
use Rattle.ring.specs.Choices.{pick}
use Rattle.ring.specs.Locate.{Touch, vertex, edge, Place, on, off, refused, located, touch_of, place_of}

-- the code's answer that says a place: the rules' numbers and values are read back
abbrev pub code_touch : Touch → CodeTouch.Touch
code_touch (vertex i j) = Vertex i j
code_touch (edge i j) = Edge i j

pub touch-back : (t : CodeTouch.Touch) → code_touch (touch_of t) ≡ t
touch-back (Vertex i j) = refl
touch-back (Edge i j) = refl

abbrev answer_of : Place → Result CodePlace.Place Refusal
answer_of (on t) = Ok (On (code_touch t))
answer_of (off w odd) = Ok (Off (record { 0 = w }) (pick odd Odd Even))
answer_of (refused n) = Err (refusal_of n)

answer-place : (r : Result CodePlace.Place Refusal) → answer_of (place_of r) ≡ r
answer-place (Ok (On t)) = ap (λ t. Ok (On t)) (touch-back t)
answer-place (Ok (Off w Even)) = refl
answer-place (Ok (Off w Odd)) = refl
answer-place (Err r) = ap Err (refusal-back r)

-- two answers that say the same are the same
pub place_of-injective : (r s : Result CodePlace.Place Refusal) → place_of r ≡ place_of s → r ≡ s
place_of-injective r s e = sym (answer-place r) ∙ ap answer_of e ∙ answer-place s

pub one-outcome : (xs : List ℤ) (a b : ℤ) (r s : Result CodePlace.Place Refusal) → place_of r ≡ located xs a b → place_of s ≡ located xs a b → r ≡ s
one-outcome xs a b r s e f = place_of-injective r s (e ∙ sym f)
