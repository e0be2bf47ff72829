-- `launchramp::both_lines` meets its contract: the end line stands behind the line of a broken record. Assumes nothing.
use Prim.Native.Nat.{◌-◌}
use native.Mathlib.Omega.{arith}
use mathlib.Core.Path.{◌≡◌}
use lib.ListN.{length, drop, length-drop}
use lib.Seq.{length-take-le}
use borrow.Author.Rules.{rules}
use Rattle.launchramp.specs.Held.{piece}
use Rattle.launchramp.proofs.Closing.{opens-both, broken-short}
use Rattle.launchramp.proofs.both_lines.Goals as goal

pub end_line-requires : goal.end_line-requires
end_line-requires c =
    let n = c.broken_line-n.result in
    let list = c.broken_line-n.new.to in
    let long : length list ≡ piece = search rules in
    let short = broken-short _ n list c.broken_line-n.ensures in
    let rest = length-drop n list in
    omega (arith, long, short, rest, length-take-le (length list - n) (drop n list) (omega (arith, rest)))

pub returns : goal.returns
returns c =
    let n = c.broken_line-n.result in
    let list = c.broken_line-n.new.to in
    opens-both n c.end_line.result (length list - n) _ _ list c.end_line.new.to c.broken_line-n.ensures c.end_line.ensures
