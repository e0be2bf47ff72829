-- The table of the places where runs start, number after number. Assumes nothing.
use Prim.Native.Nat.{ℕ, zero, suc, ◌+◌, ◌≤◌, ◌<◌}
use native.Mathlib.Decide.{dec_lt, ℕ_discrete}
use native.Mathlib.Omega.{arith}
use mathlib.Core.Path.{◌≡◌, refl, sym, ap, subst, ◌∙◌}
use mathlib.Core.List.{List}
use lib.ListN.{get_or, set, replicate, length-set, length-replicate}
use lib.Seq.{get_or-set_same, get_or-set_other}
use Rattle.districts.specs.Lists.{first_place, size}
use Rattle.districts.specs.Places.{Starts, Marked}

cleared : (n place : ℕ) → ◌≡◌ {A = ℕ} (get_or (replicate n 0) place 0) 0
cleared zero place = refl
cleared (suc n) zero = refl
cleared (suc n) (suc place) = cleared n place

pub marked-none : (runs : List ℕ) (n : ℕ) → n ≡ 2048 → Marked runs 0 (replicate n 0)
marked-none runs n e = record {
  room = length-replicate n 0 ∙ e;
  right = λ place d f. absurd (let z = cleared n place in omega arith);
  none-missed = λ place d h s. absurd (let l = s.below in omega arith);
}

-- the numbers from d on are unused
pub marked-rest : (runs : List ℕ) (d : ℕ) (starts : List ℕ) → Marked runs d starts → d ≤ 64 → ((e : ℕ) → d ≤ e → e < 64 → size runs e ≡ 0) → Marked runs 64 starts
marked-rest runs d starts m h none = record {
  room = m.room;
  right = λ place e f. let s = m.right place e f in let l = s.below in record { below = omega arith; used = s.used; there = s.there };
  none-missed = λ place e k s. elim (dec_lt e d) [
    | yes low ↦ m.none-missed place e k (record { below = low; used = s.used; there = s.there })
    | no high ↦ absurd (let z = none e (omega arith) s.below in let u = s.used in let f : ⊥ = omega arith in f)
  ];
}

module _ (runs : List ℕ) (d : ℕ) (starts : List ℕ) (before : Marked runs d starts) where
  -- a start of a number below d + 1 is that of a number below d, or d's own
  wider : (place e : ℕ) → Starts (first_place runs) (size runs) d place e → Starts (first_place runs) (size runs) (d + 1) place e
  wider place e s = let l = s.below in record { below = omega arith; used = s.used; there = s.there }

  narrower : (place e : ℕ) → (e ≡ d → ⊥) → Starts (first_place runs) (size runs) (d + 1) place e → Starts (first_place runs) (size runs) d place e
  narrower place e other s = let l = s.below in record { below = omega arith; used = s.used; there = s.there }

  -- d has no start in the table
  pub marked-without : (0 < size runs d → 2048 ≤ first_place runs d) → Marked runs (d + 1) starts
  marked-without beyond = record {
    room = before.room;
    right = λ place e f. wider place e (before.right place e f);
    none-missed = λ place e h s. before.none-missed place e h (narrower place e (other place e h s) s);
  }
    where
      other : (place e : ℕ) → place < 2048 → Starts (first_place runs) (size runs) (d + 1) place e → e ≡ d → ⊥
      other place e h s same =
          let long = ap (size runs) same in
          let first = ap (first_place runs) same in
          let used = s.used in
          let at = s.there in
          let far = beyond (omega arith) in
          omega arith

  -- d's start is put into the table
  pub marked-with : (mark : ℕ) → mark ≡ d + 1 → 0 < size runs d → (first : ℕ) → first ≡ first_place runs d → first < 2048 → Marked runs (d + 1) (set starts first mark)
  marked-with mark is used first at fits = record {
    room = length-set starts first mark ∙ before.room;
    right = right;
    none-missed = none-missed;
  }
    where
      here : get_or (set starts first mark) first 0 ≡ mark
      here = let room = before.room in get_or-set_same starts first mark 0 (omega arith)

      right : (place e : ℕ) → get_or (set starts first mark) place 0 ≡ suc e → Starts (first_place runs) (size runs) (d + 1) place e
      right place e f = elim (ℕ_discrete place first) [
        | yes same ↦
            let held : get_or (set starts first mark) place 0 ≡ mark = ap (λ p. get_or (set starts first mark) p 0) same ∙ here in
            let d-is : d ≡ e = omega arith in
            subst (λ (e : ℕ). Starts (first_place runs) (size runs) (d + 1) place e) d-is (record { below = omega arith; used = used; there = sym at ∙ sym same })
        | no other ↦ wider place e (before.right place e (sym (get_or-set_other starts first place mark 0 other) ∙ f))
      ]

      none-missed : (place e : ℕ) → place < 2048 → Starts (first_place runs) (size runs) (d + 1) place e → 0 < get_or (set starts first mark) place 0
      none-missed place e h s = elim (ℕ_discrete place first) [
        | yes same ↦ let held : get_or (set starts first mark) place 0 ≡ mark = ap (λ p. get_or (set starts first mark) p 0) same ∙ here in omega arith
        | no other ↦
            let old : 0 < get_or starts place 0 = before.none-missed place e h (narrower place e (λ e-is. other (sym s.there ∙ ap (first_place runs) e-is ∙ sym at)) s) in
            let same : get_or (set starts first mark) place 0 ≡ get_or starts place 0 = get_or-set_other starts first place mark 0 other in
            omega arith
      ]
