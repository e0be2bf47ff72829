-- The lowest and the highest index that passes a test: what an answer says, a search that ends at the first hit, and one that goes on to the end. Assumes nothing.
use Prim.Native.Nat.{ℕ, zero, suc, ◌+◌, ◌≤◌, ◌<◌}
use native.Mathlib.Omega.{arith}
use native.Mathlib.Nat.{zero-add}
use native.Mathlib.Decide.{ℕ_discrete}
use mathlib.Core.Path.{◌≡◌, refl, sym, ap, ◌∙◌, subst}
use mathlib.Core.Bool.{Bool, true, false, true≢false}
use borrow.Author.Tests.{lt-ltb, le-ltb, ltb-true}
use lib.Dec.{ltb}
use Rattle.std.specs.Prelude.{Some, None}
use Rattle.ring.specs.Choices.{pick}
use Rattle.ring.specs.Locate.{lowest, highest}
use Rattle.ring.specs.Walk.{first_met}
use Rattle.ring.proofs.Pick.{pick_true, pick-false}

-- ---- what an answer says

-- m is the lowest from i on, with k to look at, that passes; or none does, and m is the first that is not looked at
pub record Lowest (p : ℕ → Bool) (k i m : ℕ) : Type 0 where
  pub least : i ≤ m
  pub most : m ≤ i + k
  pub before : (j : ℕ) → i ≤ j → j < m → p j ≡ false
  pub passes : m < i + k → p m ≡ true

pub lowest-holds : (p : ℕ → Bool) (k i : ℕ) → Lowest p k i (lowest p k i)
unfolding lowest
lowest-holds p zero i = record { least = omega arith; most = omega arith; before = λ j g h. absurd (omega arith); passes = λ h. absurd (omega arith) }
lowest-holds p (suc k) i = step (p i) refl (lowest-holds p k (suc i))
  where
    step : (b : Bool) → p i ≡ b → Lowest p k (suc i) (lowest p k (suc i)) → Lowest p (suc k) i (pick b i (lowest p k (suc i)))
    step true e l = record { least = omega arith; most = omega arith; before = λ j g h. absurd (omega arith); passes = λ h. e }
    step false e l = record { least = omega arith; most = omega arith; before = earlier; passes = λ h. l.passes (omega arith) }
      where
        earlier : (j : ℕ) → i ≤ j → j < lowest p k (suc i) → p j ≡ false
        earlier j g h = elim (ℕ_discrete i j) [ yes same ↦ subst (λ (n : ℕ). p n ≡ false) same e | no other ↦ l.before j (omega arith) h ]

-- there is only one such m
pub lowest-unique : (p : ℕ → Bool) (k i m n : ℕ) → Lowest p k i m → Lowest p k i n → m ≡ n
lowest-unique p k i m n a b = let f : ¬ (m < n) = first m n a b in let g : ¬ (n < m) = first n m b a in omega arith
  where
    first : (m n : ℕ) → Lowest p k i m → Lowest p k i n → ¬ (m < n)
    first m n a b h = true≢false (sym (a.passes (omega arith)) ∙ b.before m a.least h)

pub lowest-none : (p : ℕ → Bool) (k i : ℕ) → ((j : ℕ) → i ≤ j → j < i + k → p j ≡ false) → lowest p k i ≡ i + k
lowest-none p k i f = lowest-unique p k i (lowest p k i) (i + k) (lowest-holds p k i) (record { least = omega arith; most = omega arith; before = f; passes = λ h. absurd (omega arith) })

pub lowest-first : (p : ℕ → Bool) (n m : ℕ) → ((j : ℕ) → j < m → p j ≡ false) → m < n → p m ≡ true → lowest p n 0 ≡ m
lowest-first p n m f h e = lowest-unique p n 0 (lowest p n 0) m (lowest-holds p n 0) (record { least = omega arith; most = omega arith; before = λ j g. f j; passes = λ g. e })

pub lowest-most : (p : ℕ → Bool) (k i : ℕ) → lowest p k i ≤ i + k
lowest-most p k i = (lowest-holds p k i).most

pub lowest-is : (p : ℕ → Bool) (k i m : ℕ) → lowest p k i ≡ m → m < i + k → (p m ≡ true) × ((j : ℕ) → i ≤ j → j < m → p j ≡ false)
lowest-is p k i m e h = let l : Lowest p k i m = subst (Lowest p k i) e (lowest-holds p k i) in (l.passes h, l.before)

pub lowest-all : (p : ℕ → Bool) (k i : ℕ) → lowest p k i ≡ i + k → (j : ℕ) → i ≤ j → j < i + k → p j ≡ false
lowest-all p k i e = let l : Lowest p k i (i + k) = subst (Lowest p k i) e (lowest-holds p k i) in l.before

-- a search from 0 that came to the end found nothing
pub lowest-over : (p : ℕ → Bool) (n : ℕ) → n ≤ lowest p n 0 → (j : ℕ) → j < n → p j ≡ false
lowest-over p n h j g = lowest-all p n 0 (omega (arith, lowest-most p n 0)) j (omega arith) (omega arith)

-- ---- a search that ends at the first hit

-- none of the indices below i passes
abbrev pub Unmet : (ℕ → Bool) → ℕ → Type 0
Unmet p i = (j : ℕ) → j < i → p j ≡ false

pub unmet-more : (p : ℕ → Bool) (i : ℕ) → p i ≡ false → Unmet p i → Unmet p (i + 1)
unmet-more p i e u j h = elim (ℕ_discrete i j) [ yes s ↦ subst (λ (m : ℕ). p m ≡ false) s e | no s ↦ u j (omega arith) ]

pub unmet-all : (p : ℕ → Bool) (n i : ℕ) → n ≤ i → Unmet p i → n ≡ lowest p n 0
unmet-all p n i h u = sym (lowest-none p n 0 (λ j g l. u j (omega arith)) ∙ zero-add n)

-- ---- the highest index that passes, looked for from the end

pub highest-hit : (p : ℕ → Bool) (k : ℕ) → p k ≡ true → highest p (suc k) ≡ k
unfolding highest
highest-hit p k e = pick_true e _ _

pub highest-miss : (p : ℕ → Bool) (k : ℕ) → p k ≡ false → highest p (suc k) ≡ highest p k
unfolding highest
highest-miss p k e = pick-false e _ _

-- where one of the indices below n passes, the highest is below n and passes, and none above it does
pub highest-is : (p : ℕ → Bool) (n i : ℕ) → i < n → p i ≡ true → (highest p n < n) × (p (highest p n) ≡ true) × ((j : ℕ) → j < n → p j ≡ true → j ≤ highest p n)
unfolding highest
highest-is p zero i h e = absurd (let f : ⊥ = omega arith in f)
highest-is p (suc k) i h e = step (p k) refl (λ f. highest-is p k i (lower i h e f) e)
  where
    -- an index that passes is not k where k fails
    lower : (j : ℕ) → j < suc k → p j ≡ true → p k ≡ false → j < k
    lower j g t f = elim (ℕ_discrete j k) [ yes s ↦ absurd (true≢false (sym t ∙ ap p s ∙ f)) | no s ↦ omega arith ]

    step : (b : Bool) → p k ≡ b → (p k ≡ false → (highest p k < k) × (p (highest p k) ≡ true) × ((j : ℕ) → j < k → p j ≡ true → j ≤ highest p k)) → (pick b k (highest p k) < suc k) × (p (pick b k (highest p k)) ≡ true) × ((j : ℕ) → j < suc k → p j ≡ true → j ≤ pick b k (highest p k))
    step true f rest = (omega arith, f, λ j g l. omega arith)
    step false f rest = let l = rest f in (omega (arith, l.0), l.1, λ j g t. l.2 j (lower j g t f) t)

-- ---- what a search answers

pub first_hit : (p : ℕ → Bool) (n i : ℕ) → i < n → p i ≡ true → Unmet p i → Some i ≡ first_met p n
first_hit p n i h e u =
    let first : lowest p n 0 ≡ i = lowest-first p n i u h e in
    ap Some (sym first) ∙ sym (pick_true (lt-ltb (lowest p n 0) n (omega (arith, first))) _ _)

pub first-passes : (p : ℕ → Bool) (n i : ℕ) → Some i ≡ first_met p n → (i < n) × (p i ≡ true)
first-passes p n i = go (ltb (lowest p n 0) n) refl
  where
    go : (b : Bool) → ltb (lowest p n 0) n ≡ b → Some i ≡ pick b (Some (lowest p n 0)) None → (i < n) × (p i ≡ true)
    go true t e =
        let same : i ≡ lowest p n 0 = cc in
        let low : lowest p n 0 < n = ltb-true (lowest p n 0) n t in
        (omega (arith, same), ap p same ∙ (lowest-is p n 0 (lowest p n 0) refl (omega (arith, low))).0)
    go false t e = let clash : ◌≡◌ {A = ℕ} 0 1 = cc in absurd (let f : ⊥ = omega arith in f)

pub first-none : (p : ℕ → Bool) (n : ℕ) → Unmet p n → None ≡ first_met p n
first-none p n u = sym (pick-false (le-ltb (lowest p n 0) n (omega (arith, unmet-all p n n (omega arith) u))) _ _)

-- the highest is one that passes and has none above it
pub highest-last : (p : ℕ → Bool) (n i : ℕ) → i < n → p i ≡ true → ((j : ℕ) → i < j → j < n → p j ≡ false) → i ≡ highest p n
highest-last p n i h e above =
    let top = highest-is p n i h e in
    let at_least : i ≤ highest p n = top.2 i h e in
    elim (ℕ_discrete i (highest p n)) [ yes same ↦ same | no other ↦ absurd (true≢false (sym top.1 ∙ above (highest p n) (omega (arith, at_least, other)) top.0)) ]
