-- What the code's structs hold: the lists of a register as they are lent, and the store and the runs of one that is well-formed. Assumes nothing.
use Rattle.std.specs.Prelude.{ℕ, ◌≡◌, true, false, Option, Some, None, Result, Ok, Err}
use Rattle.ring.specs.declared.rings.Columns.{Columns}
use Rattle.ring.specs.Columns.{points}
use Rattle.ring.specs.Held.{points_of}
use Rattle.refusals.specs.declared.Refusal.{Refusal}
use Rattle.refusals.specs.declared.Refusal.TheVariants.{NotWellFormed}
use Rattle.refusals.specs.Numbers.{number_of}
use Rattle.refusals.specs.Verdicts.{accept, refuse, verdict}
use Rattle.districts.specs.Register.{Slot, unused, ring}
use Rattle.districts.specs.Lists.{district}
use Rattle.districts.specs.Lent.{Lists, lent, formed, means, beginning}
use Rattle.districts.specs.declared.lists.Lists as Code
use Rattle.districts.specs.declared.lists.ListsToFound.{ListsToFound}
use Rattle.districts.specs.declared.lists.ListsToChange.{ListsToChange}
use Rattle.districts.specs.declared.store.Store.{Store}

-- the five lists
abbrev pub lists_of : Code.Lists → Lists
lists_of l = lent l.ox.now l.oy.now l.sx.now l.sy.now l.runs.now

abbrev pub founding_of : ListsToFound → Lists
founding_of l = lent l.ox.now l.oy.now l.sx.now l.sy.now l.runs.now

abbrev pub changing_of : ListsToChange → Lists
changing_of l = lent l.ox.now l.oy.now l.sx.now l.sy.now l.runs.now

-- both hold the very same lists of the caller: so what a call leaves in them reaches whoever lent them
abbrev pub SameFounding : ListsToFound → ListsToFound → Type 0
SameFounding k l =
    (k.ox.ghost_name ≡ l.ox.ghost_name)
    × (k.oy.ghost_name ≡ l.oy.ghost_name)
    × (k.sx.ghost_name ≡ l.sx.ghost_name)
    × (k.sy.ghost_name ≡ l.sy.ghost_name)
    × (k.runs.ghost_name ≡ l.runs.ghost_name)

abbrev pub SameChanging : ListsToChange → ListsToChange → Type 0
SameChanging k l =
    (k.ox ≡ l.ox)
    × (k.oy ≡ l.oy)
    × (k.sx.ghost_name ≡ l.sx.ghost_name)
    × (k.sy.ghost_name ≡ l.sy.ghost_name)
    × (k.runs.ghost_name ≡ l.runs.ghost_name)

-- the store and the runs of these lists
abbrev pub StoreOf : Lists → Store → Type 0
StoreOf l s = (s.sx.now ≡ l.sx) × (s.sy.now ≡ l.sy) × (s.runs.list.now ≡ l.runs)

-- those of well-formed lists, or refusal 1
abbrev pub Known : Lists → Result Store Refusal → Type 0
Known l (Ok s) = (formed l ≡ true) × StoreOf l s
Known l (Err r) = (formed l ≡ false) × (r ≡ NotWellFormed)

-- those of well-formed lists with an outline, or refusal 1 or 2
abbrev pub Begun : Lists → Result Store Refusal → Type 0
Begun l (Ok s) = (verdict (beginning (formed l) (means l)) ≡ accept) × StoreOf l s
Begun l (Err r) = verdict (beginning (formed l) (means l)) ≡ refuse (number_of r)

abbrev pub district_of : Store → ℕ → Slot
district_of s d = district (points s.sx.now s.sy.now) s.runs.list.now d

-- what a number has: a ring in columns, or none
abbrev pub Holds : Option Columns → Slot → Type 0
Holds (Some c) s = s ≡ ring (points_of c)
Holds None s = s ≡ unused
