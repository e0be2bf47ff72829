-- The records of a stream, taken one at a time from its front. Assumes nothing.
use Prim.Native.Nat.{ℕ, zero, suc, ◌≤◌}
use native.Mathlib.Omega.{arith}
use mathlib.Core.Path.{◌≡◌, refl, sym, ap, ◌∙◌}
use mathlib.Core.List.{List, [], ◌∷◌}
use lib.ListN.{length, drop, length-drop}
use Rattle.history.specs.Histories.{Call}
use Rattle.records.specs.Layout.{Front, whole, more, broken, front}
use Rattle.records.specs.Decoding.{taken_for}
use Rattle.records.proofs.Fronts.{front-short}
use Rattle.records.proofs.Sizes.{whole-size}
use Rattle.stream.specs.Streams.{and_then, calls_within, behind_it, left_within, calls_of, left_of}

-- no record stands at the front
pub record Ended (bytes : List ℕ) : Type 0 where
  pub calls : calls_of bytes ≡ []
  pub left : left_of bytes ≡ bytes

-- fewer bytes are left behind a record
fewer : (bytes : List ℕ) (c : Call) (n f : ℕ) → front bytes ≡ whole c n → length bytes ≤ suc f → length (drop n bytes) ≤ f
fewer bytes c n f e h =
    let size = whole-size bytes c n e in
    omega (arith, h, size.least, size.there, length-drop n bytes)

-- ---- no bytes, no record

nothing-there : (bytes : List ℕ) → length bytes ≤ 0 → front bytes ≡ more
nothing-there bytes h = front-short bytes (omega (arith, h))

no-calls : (f : ℕ) (bytes : List ℕ) → length bytes ≤ 0 → calls_within f bytes ≡ []
unfolding calls_within
no-calls zero bytes h = refl
no-calls (suc f) bytes h = ap (λ x. and_then x (λ n. calls_within f (drop n bytes))) (nothing-there bytes h)

all_left : (f : ℕ) (bytes : List ℕ) → length bytes ≤ 0 → left_within f bytes ≡ bytes
unfolding left_within
all_left zero bytes h = refl
all_left (suc f) bytes h = ap (λ x. behind_it x bytes (λ n. left_within f (drop n bytes))) (nothing-there bytes h)

-- ---- as many steps as there are bytes are enough

calls-enough : (f g : ℕ) (bytes : List ℕ) → length bytes ≤ f → length bytes ≤ g → calls_within f bytes ≡ calls_within g bytes
unfolding calls_within
calls-enough zero g bytes h k = sym (no-calls g bytes h)
calls-enough (suc f) zero bytes h k = no-calls (suc f) bytes k
calls-enough (suc f) (suc g) bytes h k = say (front bytes) refl (calls-enough f g)
  where
    say : (x : Front) → front bytes ≡ x → ((rest : List ℕ) → length rest ≤ f → length rest ≤ g → calls_within f rest ≡ calls_within g rest)
        → and_then x (λ n. calls_within f (drop n bytes)) ≡ and_then x (λ n. calls_within g (drop n bytes))
    say (whole c n) e again = ap (λ l. c ∷ l) (again (drop n bytes) (fewer bytes c n f e h) (fewer bytes c n g e k))
    say more e again = refl
    say broken e again = refl

left-enough : (f g : ℕ) (bytes : List ℕ) → length bytes ≤ f → length bytes ≤ g → left_within f bytes ≡ left_within g bytes
unfolding left_within
left-enough zero g bytes h k = sym (all_left g bytes h)
left-enough (suc f) zero bytes h k = all_left (suc f) bytes k
left-enough (suc f) (suc g) bytes h k = say (front bytes) refl (left-enough f g)
  where
    say : (x : Front) → front bytes ≡ x → ((rest : List ℕ) → length rest ≤ f → length rest ≤ g → left_within f rest ≡ left_within g rest)
        → behind_it x bytes (λ n. left_within f (drop n bytes)) ≡ behind_it x bytes (λ n. left_within g (drop n bytes))
    say (whole c n) e again = again (drop n bytes) (fewer bytes c n f e h) (fewer bytes c n g e k)
    say more e again = refl
    say broken e again = refl

-- ---- one record

calls_are : (bytes : List ℕ) (x : Front) → front bytes ≡ x → calls_of bytes ≡ and_then x (λ n. calls_within (length bytes) (drop n bytes))
unfolding calls_of calls_within
calls_are bytes x e =
    calls-enough (length bytes) (suc (length bytes)) bytes (omega arith) (omega arith)
    ∙ ap (λ y. and_then y (λ n. calls_within (length bytes) (drop n bytes))) e

left-are : (bytes : List ℕ) (x : Front) → front bytes ≡ x → left_of bytes ≡ behind_it x bytes (λ n. left_within (length bytes) (drop n bytes))
unfolding left_of left_within
left-are bytes x e =
    left-enough (length bytes) (suc (length bytes)) bytes (omega arith) (omega arith)
    ∙ ap (λ y. behind_it y bytes (λ n. left_within (length bytes) (drop n bytes))) e

pub calls-whole : (bytes : List ℕ) (c : Call) (n : ℕ) → front bytes ≡ whole c n → calls_of bytes ≡ c ∷ calls_of (drop n bytes)
unfolding calls_of
calls-whole bytes c n e =
    calls_are bytes (whole c n) e
    ∙ ap (λ l. c ∷ l) (calls-enough (length bytes) (length (drop n bytes)) (drop n bytes) (omega (arith, length-drop n bytes)) (omega arith))

pub left-whole : (bytes : List ℕ) (c : Call) (n : ℕ) → front bytes ≡ whole c n → left_of bytes ≡ left_of (drop n bytes)
unfolding left_of
left-whole bytes c n e =
    left-are bytes (whole c n) e
    ∙ left-enough (length bytes) (length (drop n bytes)) (drop n bytes) (omega (arith, length-drop n bytes)) (omega arith)

-- a record takes bytes: where none are taken, there is none
pub none-taken : (bytes : List ℕ) (x : Front) → front bytes ≡ x → taken_for x ≡ 0 → Ended bytes
none-taken bytes (whole c n) e none = absurd (let f : ⊥ = omega (arith, none, (whole-size bytes c n e).least) in f)
none-taken bytes more e none = record { calls = calls_are bytes more e; left = left-are bytes more e }
none-taken bytes broken e none = record { calls = calls_are bytes broken e; left = left-are bytes broken e }
