-- A test of two parts, from the outcome of a part, and the other way round. Assumes nothing.
use mathlib.Core.Path.{◌≡◌, refl, ap}
use mathlib.Core.Bool.{Bool, true, false, ◌&&◌, ◌||◌}
use mathlib.Core.Logic.{◌⊎◌, inl, inr}

pub stops : {a : Bool} → a ≡ false → (b : Bool) → (a && b) ≡ false
stops e b = ap (λ a. a && b) e

pub goes_on : {a : Bool} → a ≡ true → (b : Bool) → (a && b) ≡ b
goes_on e b = ap (λ a. a && b) e

pub refuted : (b : Bool) → (b ≡ true → ⊥) → b ≡ false
refuted true f = absurd (f refl)
refuted false f = refl

pub both_left : (a b : Bool) → (a && b) ≡ true → a ≡ true
both_left true b e = refl
both_left false b e = e

pub both_right : (a b : Bool) → (a && b) ≡ true → b ≡ true
both_right true b e = e
both_right false b e = cc

pub either : (a b : Bool) → (a || b) ≡ true → (a ≡ true) ⊎ (b ≡ true)
either true b e = inl refl
either false b e = inr e

pub passes-left : {a : Bool} → a ≡ true → (b : Bool) → (a || b) ≡ true
passes-left e b = ap (λ a. a || b) e

pub passes-right : (a : Bool) {b : Bool} → b ≡ true → (a || b) ≡ true
passes-right true e = refl
passes-right false e = e
