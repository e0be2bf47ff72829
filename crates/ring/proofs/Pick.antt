-- Tests whose outcome is known: a choice by one, and the parts of one that failed. Assumes nothing.
use mathlib.Core.Path.{◌≡◌, refl, ap}
use mathlib.Core.Bool.{Bool, true, false, ◌||◌}
use Rattle.ring.specs.Choices.{pick}

pub pick_true : {A : Type 0} {t : Bool} → t ≡ true → (a b : A) → pick t a b ≡ a
pick_true e a b = ap (λ t. pick t a b) e

pub pick-false : {A : Type 0} {t : Bool} → t ≡ false → (a b : A) → pick t a b ≡ b
pick-false e a b = ap (λ t. pick t a b) e

-- an or that fails fails on either side
pub neither_left : (a b : Bool) → (a || b) ≡ false → a ≡ false
neither_left true b e = e
neither_left false b e = refl

pub neither_right : (a b : Bool) → (a || b) ≡ false → b ≡ false
neither_right true b e = cc
neither_right false b e = e
