-- A part of the masks, one after the other given a number's bit, and the part put back. Assumes nothing.
use Prim.Native.Nat.{ℕ, ◌+◌, ◌-◌, ◌*◌, ◌%◌, ◌^◌, ◌≤◌, ◌<◌}
use native.Mathlib.Decide.{ℕ_discrete, dec_lt, dec_le}
use native.Mathlib.Omega.{arith}
use mathlib.Core.Path.{◌≡◌, sym, ap, subst, ◌∙◌}
use mathlib.Core.Bool.{true}
use mathlib.Core.List.{List}
use lib.Bits.{bit_or}
use lib.ListN.{length, get_or, set, length-set}
use lib.Seq.{get_or-set_same, get_or-set_other}
use borrow.Author.Rules.{rules}
use borrow.Rule.Slice.PartMut.{mid_of, put_mid}
use Rattle.std.proofs.lemmas.List.{places}
use Rattle.index.specs.Axis.{bit, Widened}
use Rattle.index.proofs.Bits.{set_adds, set_keeps}

-- masks that keep their bits, and of which the first n have d's
pub record Wider (before : List ℕ) (d n : ℕ) (after : List ℕ) : Type 0 where
  pub room : length after ≡ length before
  pub kept : (c e : ℕ) → bit (get_or before c 0) e ≡ true → bit (get_or after c 0) e ≡ true
  pub new : (c : ℕ) → c < n → bit (get_or after c 0) d ≡ true

module _ (before : List ℕ) (d n : ℕ) (after : List ℕ) (w : Wider before d n after) (few : d < 64) (h : n < length after) where
  abbrev mask : ℕ
  mask = bit_or (get_or after n 0) (1 * 2 ^ d % 2 ^ 64)

  abbrev next : List ℕ
  next = set after n mask

  stays : (c e : ℕ) → bit (get_or after c 0) e ≡ true → bit (get_or next c 0) e ≡ true
  stays c e t = elim (ℕ_discrete c n) [
    | yes same ↦ subst (λ m. bit (get_or next m 0) e ≡ true) (sym same) (ap (λ m. bit m e) (get_or-set_same after n mask 0 h) ∙ set_keeps (get_or after n 0) d e (subst (λ m. bit (get_or after m 0) e ≡ true) same t))
    | no other ↦ ap (λ m. bit m e) (get_or-set_other after n c mask 0 other) ∙ t
  ]

  pub wider : Wider before d (n + 1) next
  wider = record {
    room = length-set after n mask ∙ w.room;
    kept = λ c e t. stays c e (w.kept c e t);
    new = λ c k. elim (ℕ_discrete c n) [
      | yes same ↦ subst (λ m. bit (get_or next m 0) d ≡ true) (sym same) (ap (λ m. bit m d) (get_or-set_same after n mask 0 h) ∙ set_adds (get_or after n 0) d few)
      | no other ↦ stays c d (w.new c (omega arith))
    ];
  }

-- the part from one place to before another
module _ (masks : List ℕ) (d from end n : ℕ) (part : List ℕ) (h : from ≤ end) (inside : end ≤ length masks) where
  abbrev some : List ℕ
  some = mid_of from (end - from) masks

  abbrev all : List ℕ
  all = put_mid from (end - from) masks part

  module _ (w : Wider some d n part) (whole : length some ≤ n) where
    long : length some ≡ end - from
    long = search (rules, places)

    -- what the masks hold at c: before the part, within it, and behind it
    below : (c : ℕ) → c < from → get_or all c 0 ≡ get_or masks c 0
    below c k = search (rules, places)

    within : (c : ℕ) → (c < from → ⊥) → (end ≤ c → ⊥) → get_or all c 0 ≡ get_or part (c - from) 0
    within c k l = search (rules, places)

    before-within : (c : ℕ) → (c < from → ⊥) → (end ≤ c → ⊥) → get_or some (c - from) 0 ≡ get_or masks c 0
    before-within c k l = search (rules, places)

    behind : (c : ℕ) → end ≤ c → get_or all c 0 ≡ get_or masks c 0
    behind c k = search (rules, places)

    pub widened : (to : ℕ) → to < end → Widened masks d from to all
    widened to last = record {
      room = search (rules, places);
      kept = λ c e t. elim (dec_lt c from) [
        | yes k ↦ ap (λ m. bit m e) (below c k) ∙ t
        | no k ↦ elim (dec_le end c) [
          | yes l ↦ ap (λ m. bit m e) (behind c l) ∙ t
          | no l ↦ ap (λ m. bit m e) (within c k l) ∙ w.kept (c - from) e (ap (λ m. bit m e) (before-within c k l) ∙ t)
        ]
      ];
      new = λ c k l. ap (λ m. bit m d) (within c (λ f. let g : ⊥ = omega arith in g) (λ f. let g : ⊥ = omega arith in g)) ∙ w.new (c - from) (omega (arith, long));
    }
