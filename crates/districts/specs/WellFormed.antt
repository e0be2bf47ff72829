-- The rules' well-formed register, asked of the five lists. What stands in the free room is not asked. Assumes nothing.
use Rattle.std.specs.Prelude.{ℕ, ◌+◌, Bool, not, ◌&&◌, ◌||◌, List, eqb, leb, ℤ, length}
use Rattle.ring.specs.Grid.{some_beyond, fewest_vertices, most_vertices}
use Rattle.districts.specs.Counts.{all_to, sum_to}
use Rattle.districts.specs.Register.{numbers}
use Rattle.districts.specs.Lists.{outline_size, first_place, size, part}

-- the columns of the outline and of the store and the runs are as long as a register's are
abbrev pub shaped : List ℤ → List ℤ → List ℤ → List ℤ → List ℕ → Bool
shaped ox oy sx sy runs = (eqb (length ox) 2048 && eqb (length oy) 2048) && ((eqb (length sx) 2048 && eqb (length sy) 2048) && eqb (length runs) 129)

-- none, or a ring of 3 to 2,048 vertices
abbrev pub sized : ℕ → Bool
sized n = eqb n 0 || (leb fewest_vertices n && leb n most_vertices)

-- how many vertices all districts have
abbrev pub total : List ℕ → ℕ
total runs = sum_to numbers (size runs)

-- district d is unused, or its run ends within the first places of the store, as many as all districts have vertices
abbrev pub inside : List ℕ → ℕ → ℕ → Bool
inside runs all d = eqb (size runs d) 0 || leb (first_place runs d + size runs d) all

-- one of the two is unused, or one's run ends where the other's begins or before
abbrev pub apart : List ℕ → ℕ → ℕ → Bool
apart runs d e =
    (eqb (size runs d) 0 || eqb (size runs e) 0)
    || (leb (first_place runs d + size runs d) (first_place runs e) || leb (first_place runs e + size runs e) (first_place runs d))

-- all runs lie within as many places as they need together, and no two overlap: so there is no gap either
abbrev pub packed : List ℕ → Bool
packed runs = all_to numbers (inside runs (total runs)) && all_to numbers (λ d. all_to d (λ e. apart runs d e))

-- the sizes are allowed, all districts have at most 2,048 vertices, and there are none without an outline
abbrev pub counted : List ℕ → Bool
counted runs = (sized (outline_size runs) && all_to numbers (λ d. sized (size runs d))) && (leb (total runs) most_vertices && (leb 1 (outline_size runs) || eqb (total runs) 0))

-- the first n of both columns are on the grid
abbrev pub within : List ℤ → List ℤ → ℕ → Bool
within xs ys n = not (some_beyond (part xs 0 n)) && not (some_beyond (part ys 0 n))

-- every coordinate of the outline and of the districts is on the grid
abbrev pub on_grid : List ℤ → List ℤ → List ℤ → List ℤ → List ℕ → Bool
on_grid ox oy sx sy runs = within ox oy (outline_size runs) && within sx sy (total runs)

-- of the outline's x and y, the store's and the runs
unfoldable pub well_formed : List ℤ → List ℤ → List ℤ → List ℤ → List ℕ → Bool
well_formed ox oy sx sy runs = shaped ox oy sx sy runs && (counted runs && (packed runs && on_grid ox oy sx sy runs))
