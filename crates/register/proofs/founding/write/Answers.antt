-- `register::founding::write` writes the ring to the outline and to the store, and the runs. Assumes nothing.
use Prim.Native.Nat.{◌/◌}
use native.Mathlib.Nat.{zero-add}
use native.Mathlib.Omega.{arith}
use mathlib.Core.Path.{◌≡◌, sym, ap, ◌∙◌}
use mathlib.Core.List.{List, ◌++◌}
use lib.ListN.{length, drop}
use Rattle.ring.specs.declared.Point.{Point}
use Rattle.ring.specs.Grid.{vertices}
use Rattle.ring.specs.Columns.{points}
use Rattle.ring.proofs.Vertices.{length-vertices}
use Rattle.districts.specs.Lent.{written}
use Rattle.room.specs.Writing.{behind}
use Rattle.room.proofs.Written.{run-all}
use Rattle.register.specs.Calls.{placed}
use Rattle.register.proofs.founding.write.Goals as goal

-- what stands behind the first 0 is written from the first place on
from_first : (Q before : List Point) {P : List Point} → Q ≡ P → behind before 0 Q ≡ written P before
from_first Q before e = ap (λ k. Q ++ drop k before) (zero-add (length Q)) ∙ ap (λ P. written P before) e

pub returns-clause-wrote : goal.returns-clause-wrote
returns-clause-wrote c =
    let l = c.args.lists.now in
    let ring = c.args.ring.now in
    let n = length ring / 2 in
    let many : length (vertices ring) ≡ n = length-vertices ring n (omega (arith, c.requires.ring_len.0)) in
    let all = run-all (vertices ring) n many in
    record {
      outline = c.write.ensures ∙ from_first _ (points l.ox.now l.oy.now) all;
      store = c.write-2.ensures ∙ from_first _ (points l.sx.now l.sy.now) all;
      runs = c.place.ensures ∙ ap (placed l.runs.now) (sym many);
    }
