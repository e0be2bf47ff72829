-- The run of a number in the columns of a store, and when a point has nothing to do with it. Assumes nothing.
use Prim.Native.Nat.{ℕ, ◌-◌, ◌<◌}
use native.Mathlib.Decide.{dec_lt}
use native.Mathlib.Omega.{arith}
use mathlib.Core.Path.{◌≡◌, sym, ap, subst, ◌∙◌}
use mathlib.Core.Bool.{false}
use mathlib.Core.List.{List}
use lib.IntN.{ℤ, pos}
use lib.ListN.{length}
use Rattle.ring.specs.declared.Point.{Point}
use Rattle.ring.specs.Columns.{points, IsRing, Beside}
use Rattle.ring.specs.Locate.{Place, off, located_on}
use Rattle.columns.proofs.Sides.{row-misses, column-misses}
use Rattle.districts.specs.declared.store.Store.{Store}
use Rattle.districts.specs.Lists.{first_place, size}
use Rattle.districts.specs.Held.{district_of}
use Rattle.districts.proofs.Meaning.{unused-when, ring-when}
use Rattle.districts.proofs.Lent.{part_length, points-part}
use Rattle.index.specs.Axis.{run, RunBeside}
use Rattle.register.specs.Sorting.{rests, winds, lies_to}
use Rattle.register.proofs.Sorts.{Quiet}

-- where r lies to a number
abbrev pub lies : Store → Point → ℕ → Place
lies s r d = lies_to r (district_of s d)

module _ (s : Store) (r : Point) (d : ℕ) where
  abbrev sx : List ℤ
  sx = s.sx.now

  abbrev sy : List ℤ
  sy = s.sy.now

  abbrev runs : List ℕ
  runs = s.runs.list.now

  abbrev place : ℕ
  place = first_place runs d

  abbrev many : ℕ
  many = size runs d

  abbrev xs : List ℤ
  xs = run sx runs d

  abbrev ys : List ℤ
  ys = run sy runs d

  pub unused-quiet : size s.runs.list.now d ≡ 0 → Quiet (lies s r d)
  unused-quiet e =
      let nothing = unused-when (points sx sy) place many e in
      (ap (λ o. rests (lies_to r o)) nothing, ap (λ o. winds (lies_to r o)) nothing)

  module _ (few : d < 64) (used : 0 < size s.runs.list.now d) where
    across : length xs ≡ many
    across = let fits = s.good.fits d few used in part_length sx place many (omega (arith, s.good.x-length))

    up : length ys ≡ many
    up = let fits = s.good.fits d few used in part_length sy place many (omega (arith, s.good.y-length))

    -- the run is a ring in columns
    held : IsRing xs ys
    held = record {
      even = across ∙ sym up;
      least = omega (arith, across, s.good.least d few used);
      most = omega (arith, across, s.good.most d few);
      grid-x = s.good.grid-x d few used;
      grid-y = s.good.grid-y d few used;
    }

    off-quiet : located_on (points xs ys) r ≡ off (pos 0) false → Quiet (lies s r d)
    off-quiet e =
        let ring = ring-when (points sx sy) place many (λ (z : size s.runs.list.now d ≡ 0). omega arith) in
        let at = ap (lies_to r) ring ∙ ap (λ P. located_on P r) (sym (points-part sx sy place many)) ∙ e in
        (ap rests at, ap winds at)

    column-quiet : RunBeside s.sx.now s.runs.list.now d r.x → Quiet (lies s r d)
    column-quiet b = off-quiet (column-misses xs ys r held (subst (λ n. Beside xs r.x 0 (n - 1)) (sym across) b))

    row-quiet : RunBeside s.sy.now s.runs.list.now d r.y → Quiet (lies s r d)
    row-quiet b = off-quiet (row-misses xs ys r held (subst (λ n. Beside ys r.y 0 (n - 1)) (sym across) b))

  -- a number whose run lies beside the point
  pub beside-x-quiet : d < 64 → (0 < size s.runs.list.now d → RunBeside s.sx.now s.runs.list.now d r.x) → Quiet (lies s r d)
  beside-x-quiet few b = elim (dec_lt 0 many) [ yes u ↦ column-quiet few u (b u) | no u ↦ unused-quiet (omega arith) ]

  pub beside-y-quiet : d < 64 → (0 < size s.runs.list.now d → RunBeside s.sy.now s.runs.list.now d r.y) → Quiet (lies s r d)
  beside-y-quiet few b = elim (dec_lt 0 many) [ yes u ↦ row-quiet few u (b u) | no u ↦ unused-quiet (omega arith) ]
