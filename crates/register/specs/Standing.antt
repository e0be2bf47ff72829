-- How the code says how a point lies to a district; no public promise cites it. Assumes nothing.
use Rattle.std.specs.Prelude.{◌≡◌, true, false}
use Rattle.ring.specs.Locate.{Place, on, touch_of}
use Rattle.register.specs.declared.standing.Stance.{Stance}
use Rattle.register.specs.declared.standing.Stance.TheVariants.{On, Inside, Outside, Missed}
use Rattle.register.specs.Sorting.{rests, winds}

-- how the code says of a place whether it is on a ring, and where, or is wound about
abbrev pub Stands : Stance → Place → Type 0
Stands (On t) p = p ≡ on (touch_of t)
Stands Inside p = (rests p ≡ false) × (winds p ≡ true)
Stands Outside p = (rests p ≡ false) × (winds p ≡ false)
Stands (Missed line) p = (rests p ≡ false) × (winds p ≡ false)
