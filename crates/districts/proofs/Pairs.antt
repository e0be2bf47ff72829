-- A register held in columns and one held in lists x, y, x, y, .. of the same numbers: one is well-formed exactly if the other is, and they mean the same register. Assumes nothing.
use Prim.Native.Nat.{ℕ, ◌+◌}
use native.Mathlib.Omega.{arith}
use native.Mathlib.Decide.{ℕ_discrete}
use mathlib.Core.Path.{◌≡◌, refl, sym, ap, ◌∙◌}
use mathlib.Core.Bool.{Bool, true, false, not, ◌&&◌, ◌||◌}
use mathlib.Core.List.{List}
use lib.Dec.{eqb}
use lib.IntN.{ℤ}
use lib.ListN.{length, take, drop}
use borrow.Author.Tests.{eq-eqb, ne_eqb}
use Rattle.ring.specs.Choices.{pick}
use Rattle.ring.specs.Grid.{some_beyond, vertices}
use Rattle.ring.specs.Columns.{points, interleaved, Alike}
use Rattle.ring.proofs.Points.{points-are, interleaved-length, interleaved-take, interleaved-drop, interleaved-beyond, same-take}
use Rattle.districts.specs.Counts.{list_to}
use Rattle.districts.specs.Register.{unused, ring, Register, numbers}
use Rattle.refusals.specs.Verdicts.{Verdict, accept, refuse}
use Rattle.districts.specs.Lists.{outline_size, first_place, size, part, held, meaning}
use Rattle.districts.specs.WellFormed.{shaped, total, counted, packed, within, well_formed}
use Rattle.districts.specs.Lent.{Lists, formed, means, Leaves}
use Rattle.districts.specs.Pairs as Pairs
use Rattle.districts.proofs.Lent.{points-part}

part-alike : (xs ys : List ℤ) (place n : ℕ) → Pairs.part (interleaved xs ys) place n ≡ interleaved (part xs place n) (part ys place n)
part-alike xs ys place n = ap (take (n + n)) (interleaved-drop place xs ys) ∙ interleaved-take n (drop place xs) (drop place ys)

held-alike : (zs xs ys : List ℤ) → Alike zs xs ys → (place n : ℕ) → held (points xs ys) place n ≡ Pairs.held zs place n
held-alike zs xs ys a place n =
    ap (λ P. pick (eqb n 0) unused (ring P)) (sym (points-part xs ys place n) ∙ sym (points-are (part xs place n) (part ys place n)))
    ∙ ap (λ ws. pick (eqb n 0) unused (ring (vertices ws))) (sym (part-alike xs ys place n))
    ∙ ap (λ ws. Pairs.held ws place n) (sym a.numbers)

meaning-alike : (o ox oy s sx sy : List ℤ) (runs : List ℕ) → Alike o ox oy → Alike s sx sy → meaning (points ox oy) (points sx sy) runs ≡ Pairs.meaning o s runs
unfolding meaning Pairs.meaning
meaning-alike o ox oy s sx sy runs a b i = record {
  outline = held-alike o ox oy a 0 (outline_size runs) i;
  districts = list_to numbers (λ d. held-alike s sx sy b (first_place runs d) (size runs d) i);
}

-- ---- well-formed

long-alike : (zs xs ys : List ℤ) → Alike zs xs ys → (eqb (length xs) 2048 && eqb (length ys) 2048) ≡ eqb (length zs) 4096
long-alike zs xs ys a = elim (ℕ_discrete (length xs) 2048) [
  | yes so ↦ (λ i. eq-eqb (length xs) 2048 so i && eq-eqb (length ys) 2048 (sym a.even ∙ so) i) ∙ sym (eq-eqb (length zs) 4096 (omega (arith, twice, so)))
  | no other ↦ ap (λ (b : Bool). b && eqb (length ys) 2048) (ne_eqb (length xs) 2048 other) ∙ sym (ne_eqb (length zs) 4096 (λ e. other (omega (arith, twice, e))))
]
  where
    twice : length zs ≡ length xs + length xs
    twice = ap length a.numbers ∙ interleaved-length xs ys a.even

shaped-alike : (o ox oy s sx sy : List ℤ) (runs : List ℕ) → Alike o ox oy → Alike s sx sy → shaped ox oy sx sy runs ≡ Pairs.shaped o s runs
shaped-alike o ox oy s sx sy runs a b i = long-alike o ox oy a i && (long-alike s sx sy b i && eqb (length runs) 129)

neither : (a b : Bool) → (not a && not b) ≡ not (a || b)
neither true b = refl
neither false b = refl

within-alike : (zs xs ys : List ℤ) → Alike zs xs ys → (n : ℕ) → within xs ys n ≡ not (some_beyond (Pairs.part zs 0 n))
within-alike zs xs ys a n =
    neither (some_beyond (part xs 0 n)) (some_beyond (part ys 0 n))
    ∙ ap not (sym (interleaved-beyond (part xs 0 n) (part ys 0 n) (same-take n xs ys a.even)))
    ∙ ap (λ ws. not (some_beyond ws)) (sym (part-alike xs ys 0 n))
    ∙ ap (λ ws. not (some_beyond (Pairs.part ws 0 n))) (sym a.numbers)

formed-alike : (o ox oy s sx sy : List ℤ) (runs : List ℕ) → Alike o ox oy → Alike s sx sy → well_formed ox oy sx sy runs ≡ Pairs.well_formed o s runs
unfolding well_formed Pairs.well_formed
formed-alike o ox oy s sx sy runs a b i =
    shaped-alike o ox oy s sx sy runs a b i
    && (counted runs && (packed runs && (within-alike o ox oy a (outline_size runs) i && within-alike s sx sy b (total runs) i)))

-- ---- registers held either way

-- the same register, and the same answer to whether it is well-formed
pub same-meaning : (l : Lists) (p : Pairs.Lists) → Pairs.Alike l p → means l ≡ Pairs.means p
same-meaning l p a = meaning-alike _ _ _ _ _ _ l.runs a.outline a.store ∙ ap (Pairs.meaning p.outline p.store) a.runs

pub same-formed : (l : Lists) (p : Pairs.Lists) → Pairs.Alike l p → formed l ≡ Pairs.formed p
same-formed l p a = formed-alike _ _ _ _ _ _ l.runs a.outline a.store ∙ ap (Pairs.well_formed p.outline p.store) a.runs

-- a call that is judged alike and makes the same register ends alike
pub ends-alike : (v : Verdict) (g : Register) (l l' : Lists) (p p' : Pairs.Lists) → Pairs.Alike l p → Leaves v g l l' → Pairs.Leaves v g p p' → (means l' ≡ Pairs.means p') × (formed l' ≡ Pairs.formed p')
ends-alike accept g l l' p p' a e f = (e.1 ∙ sym f.1, e.0 ∙ sym f.0)
ends-alike (refuse n) g l l' p p' a e f = (ap means (sym e) ∙ same-meaning l p a ∙ ap Pairs.means f, ap formed (sym e) ∙ same-formed l p a ∙ ap Pairs.formed f)
