-- A choice by a test, and a test counted. Assumes nothing.
use Rattle.std.specs.Prelude.{ℕ, Bool, true, false}

-- a if the test passes, otherwise b
abbrev pub pick {ℓ} : {A : Type ℓ} → Bool → A → A → A
pick true a b = a
pick false a b = b

-- 1 for a test that passes and 0 for one that fails
abbrev pub count : Bool → ℕ
count true = 1
count false = 0
