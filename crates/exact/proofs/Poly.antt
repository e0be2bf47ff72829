-- Polynomial identities over the whole numbers, closed by computation: `identity ρ a b tt` proves that two expressions have one value.
-- Both sides are multiplied out and their difference gathered by monomials; where every coefficient comes to zero, the values are the same. Only this direction is proved. Assumes nothing.
use Prim.Native.Nat.{ℕ}
use mathlib.Core.Path.{◌≡◌, refl, sym, ap, ◌∙◌}
use mathlib.Core.Bool.{Bool, true, false, ◌&&◌}
use mathlib.Core.List.{List, [], ◌∷◌}
use lib.Dec.{T, leb, eqb, eqb→eq}
use lib.ListN.{get_or}
use lib.IntN.{ℤ, pos, neg_ℤ, ◌+ℤ◌, ◌-ℤ◌, ◌*ℤ◌, +ℤ_assoc, +ℤ_idl, +ℤ_idr, +ℤ_invr, *ℤ_comm, zero-*ℤ, *ℤ-zero, neg_ℤ-+ℤ}
use mir.Facts.{and_yes}
use Rattle.exact.specs.Sign.{eq_z}
use Rattle.exact.proofs.Signs.{eq_z-eq, sub-zero}
use Rattle.exact.proofs.Sums.{*ℤ-assoc, *ℤ-swap, *ℤ-+ℤ, +ℤ-*ℤ, +ℤ-swap, one-*ℤ, neg_ℤ-*ℤ}

pub data Expr : Type 0 where
  var : ℕ → Expr
  num : ℤ → Expr
  add : Expr → Expr → Expr
  mul : Expr → Expr → Expr
  neg : Expr → Expr

abbrev pub sub : Expr → Expr → Expr
sub a b = add a (neg b)

-- variable i is the i-th number of the list
abbrev pub value : List ℤ → Expr → ℤ
value ρ (var i) = get_or ρ i (pos 0)
value ρ (num z) = z
value ρ (add a b) = value ρ a +ℤ value ρ b
value ρ (mul a b) = value ρ a *ℤ value ρ b
value ρ (neg a) = neg_ℤ (value ρ a)

-- ---- sums of monomials: a coefficient and the variables in rising order; no monomial stands twice

pub data Poly : Type 0 where
  none : Poly
  more : ℤ → List ℕ → Poly → Poly

abbrev product : List ℤ → List ℕ → ℤ
product ρ [] = pos 1
product ρ (i ∷ m) = get_or ρ i (pos 0) *ℤ product ρ m

abbrev total : List ℤ → Poly → ℤ
total ρ none = pos 0
total ρ (more c m p) = c *ℤ product ρ m +ℤ total ρ p

-- the two ways wait behind a λ, so that only the one that is taken is computed
abbrev pub choose : {A : Type 0} → Bool → (Unit {0} → A) → (Unit {0} → A) → A
choose true f g = f tt
choose false f g = g tt

choose-cases : {A : Type 0} (P : A → Type 0) (b : Bool) (f g : Unit {0} → A) → (T b → P (f tt)) → P (g tt) → P (choose b f g)
choose-cases P true f g yes-case no-case = yes-case tt
choose-cases P false f g yes-case no-case = no-case

abbrev pub insert : ℕ → List ℕ → List ℕ
insert i [] = i ∷ []
insert i (j ∷ m) = choose (leb i j) (λ _. i ∷ j ∷ m) (λ _. j ∷ insert i m)

insert-product : (ρ : List ℤ) (i : ℕ) (m : List ℕ) → product ρ (insert i m) ≡ get_or ρ i (pos 0) *ℤ product ρ m
insert-product ρ i [] = refl
insert-product ρ i (j ∷ m) = later (insert-product ρ i m)
  where
    later : product ρ (insert i m) ≡ get_or ρ i (pos 0) *ℤ product ρ m → product ρ (insert i (j ∷ m)) ≡ get_or ρ i (pos 0) *ℤ product ρ (j ∷ m)
    later ih = choose-cases (λ n. product ρ n ≡ get_or ρ i (pos 0) *ℤ product ρ (j ∷ m)) (leb i j) (λ _. i ∷ j ∷ m) (λ _. j ∷ insert i m)
        (λ t. refl) (ap (λ (z : ℤ). get_or ρ j (pos 0) *ℤ z) ih ∙ *ℤ-swap (get_or ρ j (pos 0)) (get_or ρ i (pos 0)) (product ρ m))

abbrev pub joined : List ℕ → List ℕ → List ℕ
joined [] n = n
joined (i ∷ m) n = insert i (joined m n)

joined-product : (ρ : List ℤ) (m n : List ℕ) → product ρ (joined m n) ≡ product ρ m *ℤ product ρ n
joined-product ρ [] n = sym (one-*ℤ (product ρ n))
joined-product ρ (i ∷ m) n = insert-product ρ i (joined m n) ∙ ap (λ (z : ℤ). get_or ρ i (pos 0) *ℤ z) (joined-product ρ m n) ∙ sym (*ℤ-assoc (get_or ρ i (pos 0)) (product ρ m) (product ρ n))

abbrev pub same_mono : List ℕ → List ℕ → Bool
same_mono [] [] = true
same_mono [] (j ∷ n) = false
same_mono (i ∷ m) [] = false
same_mono (i ∷ m) (j ∷ n) = choose (eqb i j) (λ _. same_mono m n) (λ _. false)

same-mono : (m n : List ℕ) → T (same_mono m n) → m ≡ n
same-mono [] [] t = refl
same-mono [] (j ∷ n) t = absurd t
same-mono (i ∷ m) [] t = absurd t
same-mono (i ∷ m) (j ∷ n) t = choose-cases (λ b. T b → i ∷ m ≡ j ∷ n) (eqb i j) (λ _. same_mono m n) (λ _. false)
    (λ e u k. eqb→eq i j e k ∷ same-mono m n u k) absurd t

abbrev pub plus_term : ℤ → List ℕ → Poly → Poly
plus_term c m none = more c m none
plus_term c m (more d n p) = choose (same_mono m n) (λ _. more (c +ℤ d) n p) (λ _. more d n (plus_term c m p))

plus_term-total : (ρ : List ℤ) (c : ℤ) (m : List ℕ) (p : Poly) → total ρ (plus_term c m p) ≡ c *ℤ product ρ m +ℤ total ρ p
plus_term-total ρ c m none = refl
plus_term-total ρ c m (more d n p) = choose-cases (λ q. total ρ q ≡ c *ℤ product ρ m +ℤ total ρ (more d n p)) (same_mono m n) (λ _. more (c +ℤ d) n p) (λ _. more d n (plus_term c m p))
    (λ t. ap (λ (z : ℤ). z +ℤ total ρ p) (+ℤ-*ℤ c d (product ρ n)) ∙ +ℤ_assoc (c *ℤ product ρ n) (d *ℤ product ρ n) (total ρ p) ∙ ap (λ (k : List ℕ). c *ℤ product ρ k +ℤ total ρ (more d n p)) (sym (same-mono m n t)))
    (ap (λ (z : ℤ). d *ℤ product ρ n +ℤ z) (plus_term-total ρ c m p) ∙ +ℤ-swap (d *ℤ product ρ n) (c *ℤ product ρ m) (total ρ p))

abbrev pub plus_poly : Poly → Poly → Poly
plus_poly none q = q
plus_poly (more c m p) q = plus_term c m (plus_poly p q)

plus_poly-total : (ρ : List ℤ) (p q : Poly) → total ρ (plus_poly p q) ≡ total ρ p +ℤ total ρ q
plus_poly-total ρ none q = sym (+ℤ_idl (total ρ q))
plus_poly-total ρ (more c m p) q = plus_term-total ρ c m (plus_poly p q) ∙ ap (λ (z : ℤ). c *ℤ product ρ m +ℤ z) (plus_poly-total ρ p q) ∙ sym (+ℤ_assoc (c *ℤ product ρ m) (total ρ p) (total ρ q))

-- distinct monomials stay distinct under a common factor, so there is nothing to gather
abbrev pub times_term : ℤ → List ℕ → Poly → Poly
times_term c m none = none
times_term c m (more d n q) = more (c *ℤ d) (joined m n) (times_term c m q)

times_term-total : (ρ : List ℤ) (c : ℤ) (m : List ℕ) (q : Poly) → total ρ (times_term c m q) ≡ c *ℤ product ρ m *ℤ total ρ q
times_term-total ρ c m none = sym (*ℤ-zero (c *ℤ product ρ m))
times_term-total ρ c m (more d n q) = (λ i. crossed i +ℤ times_term-total ρ c m q i) ∙ sym (*ℤ-+ℤ (c *ℤ product ρ m) (d *ℤ product ρ n) (total ρ q))
  where
    crossed : c *ℤ d *ℤ product ρ (joined m n) ≡ c *ℤ product ρ m *ℤ (d *ℤ product ρ n)
    crossed = ap (λ (z : ℤ). c *ℤ d *ℤ z) (joined-product ρ m n) ∙ *ℤ-assoc c d (product ρ m *ℤ product ρ n) ∙ ap (λ (z : ℤ). c *ℤ z) (*ℤ-swap d (product ρ m) (product ρ n)) ∙ sym (*ℤ-assoc c (product ρ m) (d *ℤ product ρ n))

abbrev pub times_poly : Poly → Poly → Poly
times_poly none q = none
times_poly (more c m p) q = plus_poly (times_term c m q) (times_poly p q)

times_poly-total : (ρ : List ℤ) (p q : Poly) → total ρ (times_poly p q) ≡ total ρ p *ℤ total ρ q
times_poly-total ρ none q = sym (zero-*ℤ (total ρ q))
times_poly-total ρ (more c m p) q = plus_poly-total ρ (times_term c m q) (times_poly p q) ∙ (λ i. times_term-total ρ c m q i +ℤ times_poly-total ρ p q i) ∙ sym (+ℤ-*ℤ (c *ℤ product ρ m) (total ρ p) (total ρ q))

abbrev pub neg_poly : Poly → Poly
neg_poly none = none
neg_poly (more c m p) = more (neg_ℤ c) m (neg_poly p)

neg_poly-total : (ρ : List ℤ) (p : Poly) → total ρ (neg_poly p) ≡ neg_ℤ (total ρ p)
neg_poly-total ρ none = refl
neg_poly-total ρ (more c m p) = (λ i. neg_ℤ-*ℤ c (product ρ m) i +ℤ neg_poly-total ρ p i) ∙ sym (neg_ℤ-+ℤ (c *ℤ product ρ m) (total ρ p))

-- ---- an expression multiplied out

abbrev pub normal : Expr → Poly
normal (var i) = more (pos 1) (i ∷ []) none
normal (num z) = more z [] none
normal (add a b) = plus_poly (normal a) (normal b)
normal (mul a b) = times_poly (normal a) (normal b)
normal (neg a) = neg_poly (normal a)

normal-total : (ρ : List ℤ) (a : Expr) → total ρ (normal a) ≡ value ρ a
normal-total ρ (var i) = +ℤ_idr (pos 1 *ℤ (get_or ρ i (pos 0) *ℤ pos 1)) ∙ one-*ℤ (get_or ρ i (pos 0) *ℤ pos 1) ∙ *ℤ_comm (get_or ρ i (pos 0)) (pos 1) ∙ one-*ℤ (get_or ρ i (pos 0))
normal-total ρ (num z) = +ℤ_idr (z *ℤ pos 1) ∙ *ℤ_comm z (pos 1) ∙ one-*ℤ z
normal-total ρ (add a b) = plus_poly-total ρ (normal a) (normal b) ∙ (λ i. normal-total ρ a i +ℤ normal-total ρ b i)
normal-total ρ (mul a b) = times_poly-total ρ (normal a) (normal b) ∙ (λ i. normal-total ρ a i *ℤ normal-total ρ b i)
normal-total ρ (neg a) = neg_poly-total ρ (normal a) ∙ ap neg_ℤ (normal-total ρ a)

abbrev pub all_zero : Poly → Bool
all_zero none = true
all_zero (more c m p) = eq_z c (pos 0) && all_zero p

all-zero : (ρ : List ℤ) (p : Poly) → T (all_zero p) → total ρ p ≡ pos 0
all-zero ρ none t = refl
all-zero ρ (more c m p) t = (λ i. eq_z-eq c (pos 0) both.0 i *ℤ product ρ m +ℤ all-zero ρ p both.1 i) ∙ ap (λ (z : ℤ). z +ℤ pos 0) (zero-*ℤ (product ρ m))
  where
    both : T (eq_z c (pos 0)) × T (all_zero p)
    both = and_yes (eq_z c (pos 0)) (all_zero p) t

-- whether two expressions are the same polynomial
abbrev pub same_normal : Expr → Expr → Bool
same_normal a b = all_zero (normal (sub a b))

pub identity : (ρ : List ℤ) (a b : Expr) → T (same_normal a b) → value ρ a ≡ value ρ b
identity ρ a b t = sub-zero (value ρ a) (value ρ b) (sym (normal-total ρ (sub a b)) ∙ all-zero ρ (normal (sub a b)) t)

-- the same given an equation l ≡ r: a - b is k times l - r
pub follows : (ρ : List ℤ) (l r k a b : Expr) → value ρ l ≡ value ρ r → T (same_normal (sub a b) (mul k (sub l r))) → value ρ a ≡ value ρ b
follows ρ l r k a b e t = sub-zero (value ρ a) (value ρ b) (identity ρ (sub a b) (mul k (sub l r)) t ∙ ap (λ (z : ℤ). value ρ k *ℤ (z -ℤ value ρ r)) e ∙ ap (λ (z : ℤ). value ρ k *ℤ z) (+ℤ_invr (value ρ r)) ∙ *ℤ-zero (value ρ k))

-- an example: what an arrow has along v is lost in the determinant with v
lost-along : (s t ux uy vx vy : ℤ) → s *ℤ (ux *ℤ vy -ℤ vx *ℤ uy) ≡ (s *ℤ ux +ℤ t *ℤ vx) *ℤ vy -ℤ vx *ℤ (s *ℤ uy +ℤ t *ℤ vy)
lost-along s t ux uy vx vy = identity (s ∷ t ∷ ux ∷ uy ∷ vx ∷ vy ∷ [])
    (mul (var 0) (sub (mul (var 2) (var 5)) (mul (var 4) (var 3))))
    (sub (mul (add (mul (var 0) (var 2)) (mul (var 1) (var 4))) (var 5)) (mul (var 4) (add (mul (var 0) (var 3)) (mul (var 1) (var 5))))) tt
