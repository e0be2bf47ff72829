-- `ring::counting::each_of_list`: the closing edge, and then the first edges, as many as vertices were met from place 2 of the list on. The measure is how much of the list is left. Assumes nothing.
use Prim.Native.Nat.{ℕ, ◌+◌, ◌-◌, ◌<◌}
use mathlib.Core.Path.{◌≡◌}
use mathlib.Core.List.{List}
use lib.ListN.{length}
use Rattle.ring.specs.declared.Point.{Point}
use Rattle.ring.specs.declared.counting.End.{End}
use Rattle.ring.specs.declared.counting.Count.{Count}
use Rattle.ring.specs.Grid.{vertices}
use Rattle.ring.specs.Rings.{at}
use Rattle.ring.specs.Walk.{head_of, Sight, Counts}
use Rattle.ring.proofs.counting.each_of_list.Given as goal

pub record Walked (P : List Point) (R : Point) (c v : Count) (from : End) (k : ℕ) : Type 0 where
  pub edges : ℕ
  pub place : k ≡ edges + edges + 2
  pub within : edges < length P
  pub counts : Counts P R 0 edges c v
  pub sight : Sight R (at P edges) from

abbrev pub invariant-loop-k : goal.invariant-loop-k
invariant-loop-k l = Walked (vertices l.ring.list.now) (head_of l.r) l.initial.count l.count l.from l.k

abbrev pub decreases-loop-k : goal.decreases-loop-k
decreases-loop-k l = length l.ring.list.now - l.k
