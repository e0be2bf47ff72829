-- What performing a change leaves in the store's points and the runs, one step after the other. No public promise cites it. Assumes nothing.
use Rattle.std.specs.Prelude.{ℕ, ◌+◌, ◌≤◌, ◌<◌, ◌≡◌, List, ◌⊎◌, length}
use Rattle.ring.specs.declared.Point.{Point}
use Rattle.districts.specs.Lists.{first_place, size}
use Rattle.districts.specs.WellFormed.{total}
use Rattle.room.specs.Writing.{Left, Added}

-- what a split leaves: number d has left, then took piece one, and number e took piece two
pub record Divided (store : List Point) (runs : List ℕ) (d e : ℕ) (one two : List Point) (store' : List Point) (runs' : List ℕ) : Type 0 where
  pub store₁ : List Point
  pub runs₁ : List ℕ
  pub store₂ : List Point
  pub runs₂ : List ℕ
  pub left : Left store runs d store₁ runs₁
  pub first : Added store₁ runs₁ d one store₂ runs₂
  pub second : Added store₂ runs₂ e two store' runs'

-- two numbers in use: their runs lie in the used part of the store, apart
pub record Pair (runs : List ℕ) (A B : ℕ) : Type 0 where
  pub runs-length : length runs ≡ 129
  pub most : total runs ≤ 2048
  pub first : A < 64
  pub second : B < 64
  pub differ : A ≡ B → ⊥
  pub some : 0 < size runs A
  pub more : 0 < size runs B
  pub first-inside : first_place runs A + size runs A ≤ total runs
  pub second-inside : first_place runs B + size runs B ≤ total runs
  pub apart : (first_place runs A + size runs A ≤ first_place runs B) ⊎ (first_place runs B + size runs B ≤ first_place runs A)

-- what a merge leaves: numbers A and B have left, then A took the result
pub record Joined (store : List Point) (runs : List ℕ) (A B : ℕ) (P : List Point) (store' : List Point) (runs' : List ℕ) : Type 0 where
  pub store₁ : List Point
  pub runs₁ : List ℕ
  pub store₂ : List Point
  pub runs₂ : List ℕ
  pub first : Left store runs A store₁ runs₁
  pub second : Left store₁ runs₁ B store₂ runs₂
  pub taken : Added store₂ runs₂ A P store' runs'
