-- `changes::splitting::divide` lets a district leave, then writes the two pieces. Assumes nothing.
use Prim.Native.Nat.{ℕ, suc, ◌+◌, ◌/◌}
use native.Mathlib.Omega.{arith}
use mathlib.Core.Path.{◌≡◌, sym, ap, transport, ◌∙◌}
use mathlib.Core.List.{◌++◌, reverse}
use lib.ListN.{length}
use Rattle.ring.specs.Grid.{vertices}
use Rattle.ring.proofs.Vertices.{length-vertices}
use Rattle.room.specs.Room.{store_of}
use Rattle.room.specs.Runs.{run, steps}
use Rattle.room.specs.Writing.{Added}
use Rattle.room.proofs.Written.{run-all, one-length}
use Rattle.room.proofs.Entering.{added-total}
use Rattle.room.proofs.Leaving.{left-total}
use Rattle.judging.proofs.Sums.{steps-round}
use Rattle.changes.proofs.splitting.divide.Goals as goal

pub add-requires-clause-fits : goal.add-requires-clause-fits
add-requires-clause-fits c =
    let less = left-total _ _ c.args.cut.d _ _ c.requires.numbers.0 c.remove.ensures.left in
    omega (arith, less, c.steps.ensures.1, c.requires.ring_len, c.requires.room)

pub add-requires-2-clause-fits : goal.add-requires-2-clause-fits
add-requires-2-clause-fits c =
    let cut = c.args.cut in
    let path = c.args.path.now in
    let ends = c.requires.ends in
    let left = c.remove.ensures.left in
    let P = vertices c.args.ring.now in
    let less = left-total _ _ cut.d _ _ c.requires.numbers.0 left in
    let more = added-total _ c.remove.new.self.runs.now cut.d _ _ c.add.new.self.runs.now left.long-runs c.requires.numbers.0 left.gone c.add.ensures.added in
    let many = one-length P cut.i (1 + c.steps.result) path (length path / 2) (omega (arith, c.requires.path_len)) in
    let round = steps-round (length c.args.ring.now / 2) cut.i cut.j ends.0 ends.1 ends.2 in
    omega (arith, less, more, many, round, c.steps.ensures.0, c.steps-2.ensures.0, c.requires.ring_len, c.requires.room)

one_more : {r m : ℕ} → r ≡ m → 1 + r ≡ suc m
one_more e = omega arith

pub returns-clause-divided : goal.returns-clause-divided
returns-clause-divided c =
    let cut = c.args.cut in
    let ring = c.args.ring.now in
    let path = c.args.path.now in
    let P = vertices ring in
    let W = vertices path in
    let store₁ = c.remove.new.self in
    let store₂ = c.add.new.self in
    let after = c.add-2.new.self in
    let n : length ring / 2 ≡ length P = sym (length-vertices ring (length ring / 2) (omega (arith, c.requires.ring_len))) in
    let there : 1 + c.steps.result ≡ suc (steps (length P) cut.i cut.j) = one_more (c.steps.ensures.0 ∙ ap (λ m. steps m cut.i cut.j) n) in
    let back : 1 + c.steps-2.result ≡ suc (steps (length P) cut.j cut.i) = one_more (c.steps-2.ensures.0 ∙ ap (λ m. steps m cut.j cut.i) n) in
    let way = run-all W (length path / 2) (length-vertices path (length path / 2) (omega (arith, c.requires.path_len))) in
    record {
      store₁ = store_of store₁;
      runs₁ = store₁.runs.now;
      store₂ = store_of store₂;
      runs₂ = store₂.runs.now;
      left = c.remove.ensures.left;
      first = transport (λ t. Added (store_of store₁) store₁.runs.now cut.d (run P cut.i (there t) ++ reverse W) (store_of store₂) store₂.runs.now) c.add.ensures.added;
      second = transport (λ t. Added (store_of store₂) store₂.runs.now c.args.e (run P cut.j (back t) ++ way t) (store_of after) after.runs.now) c.add-2.ensures.added;
    }
