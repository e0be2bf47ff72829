-- What is noted of the districts that a point winds about; no public promise cites it. Assumes nothing.
use Rattle.std.specs.Prelude.{ℕ, ◌+◌, ◌≡◌, Option, Some, None}
use Rattle.register.specs.declared.seen.Seen.{Seen}

-- the first of the two that there is
abbrev pub first_of : Option ℕ → ℕ → ℕ
first_of None d = d
first_of (Some l) d = l

-- the lowest number that was seen; 64 where none was
abbrev pub lowest_of : Seen → ℕ
lowest_of s = first_of s.lowest 64

-- with number d more
pub record OneMore (s : Seen) (d : ℕ) (t : Seen) : Type 0 where
  pub lowest : t.lowest ≡ Some (first_of s.lowest d)
  pub many : t.many ≡ s.many + 1
