-- `register::sorting::sort` sees one number after the other, and leaves off where those left are unused. Assumes nothing.
use Prim.Native.Nat.{ℕ, ◌≤◌}
use native.Mathlib.Omega.{arith}
use mathlib.Core.Path.{◌≡◌, sym, subst, ◌∙◌}
use mathlib.Core.Logic.{◌⊎◌, inl, inr}
use Rattle.ring.specs.declared.Point.{Point}
use Rattle.districts.specs.declared.store.Store.{Store}
use Rattle.districts.specs.Counts.{sum_to}
use Rattle.districts.specs.WellFormed.{total}
use Rattle.register.specs.declared.seen.Seen.{Seen}
use Rattle.register.specs.Seen.{OneMore}
use Rattle.districts.specs.Lists.{size}
use Rattle.districts.proofs.Counting.{sum-none, sum_more, term-past, rest-none}
use Rattle.register.specs.Standing.{Stands}
use Rattle.register.proofs.Runs.{lies, unused-quiet}
use Rattle.register.proofs.Sorts.{Sorts, sorts-none, sorts-more, sorts-same, sorts-border, sorts-rest, sorts-all}
use Rattle.register.proofs.sorting.sort.Goals as goal
use Rattle.register.proofs.sorting.sort.Goals.{in-Inside, in-Outside, in-Missed, else-loop-d-test, then-loop-d-test+then-past-all}

pub loop-d-init : goal.loop-d-init
loop-d-init c = (sorts-none _ _ c.none-seen.ensures, sum-none _)

pub returns-in-On : goal.returns-in-On
returns-in-On c =
    let place = lies c.args.store.now c.args.r in
    sorts-border place _ _ _ c.loop-d-test.true c.loop-d.invariant.0 (subst (λ s. Stands s (place c.loop-d.d)) c.in-On.is c.lies.ensures)

pub overflow_add-past : goal.overflow_add-past
overflow_add-past c =
    let most = term-past (size c.args.store.now.runs.list.now) 64 c.loop-d.d c.loop-d.d (omega arith) c.loop-d-test.true in
    omega (arith, most, c.loop-d.invariant.1, c.size-past.ensures.0, c.total-all.ensures, c.total-all.type_inv)

pub loop-d-preserved : goal.loop-d-preserved
loop-d-preserved c =
    let place = lies c.args.store.now c.args.r in
    let d = c.loop-d.d in
    let sums = sum_more (size c.args.store.now.runs.list.now) d _ _ c.loop-d.invariant.1 c.size-past.ensures.0 in
    elim c.match-lies.branch [
      | in-Inside w ↦ (sorts-more place d _ _ c.loop-d-test.true c.loop-d.invariant.0 w.in-Inside.ensures (subst (OneMore c.loop-d.seen d) (sym w.seen-is) w.with-seen.ensures), sums)
      | in-Outside w ↦ (sorts-same place d _ _ c.loop-d-test.true c.loop-d.invariant.0 w.in-Outside.ensures w.seen-is, sums)
      | in-Missed w ↦ (sorts-same place d _ _ c.loop-d-test.true c.loop-d.invariant.0 w.in-Missed.ensures w.seen-is, sums)
    ]

-- at the end, or where all vertices were those of the numbers below d
left_off : (s : Store) (r : Point) (d : ℕ) (seen : Seen) (past : ℕ) → Sorts (lies s r) d seen → past ≡ sum_to d (size s.runs.list.now) → (64 ≤ d) ⊎ (past ≡ total s.runs.list.now) → Sorts (lies s r) 64 seen
left_off s r d seen past l e (inl end) = subst (λ (n : ℕ). Sorts (lies s r) n seen) (let same : d ≡ 64 = omega (arith, l.le) in same) l
left_off s r d seen past l e (inr all) =
    let none = rest-none (size s.runs.list.now) 64 d past e (omega (arith, all)) in
    sorts-rest (lies s r) 64 d seen (omega arith) l.le l (λ k h m. unused-quiet s r k (none k h m))

pub returns : goal.returns
returns c =
    let ended : (64 ≤ c.loop-d.d) ⊎ (c.loop-d.past ≡ total c.args.store.now.runs.list.now) = elim c.loop-d-test.branch [
      | else-loop-d-test w ↦ inl (omega (arith, w.loop-d-test.false))
      | then-loop-d-test+then-past-all w ↦ inr (w.if-past-all.true ∙ c.total-all.ensures)
    ] in
    c.class.ensures ∙ sorts-all (lies c.args.store.now c.args.r) _ (left_off c.args.store.now c.args.r _ _ _ c.loop-d.invariant.0 c.loop-d.invariant.1 ended)
