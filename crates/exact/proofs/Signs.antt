-- The laws of signs: of negation, product and difference, and each comparison as a test of the difference's sign.
-- A law about the signs of several numbers is then one Boolean test at all signs, `every`, closed by `tt`. Assumes nothing.
use Prim.Native.Nat.{ℕ, zero, suc, ◌+◌, ◌*◌, ◌<◌}
use native.Mathlib.Omega.{arith}
use native.Mathlib.Nat.{suc-mul, add-suc}
use mathlib.Core.Path.{◌≡◌, refl, sym, ap, ◌∙◌, subst}
use mathlib.Core.Bool.{Bool, true, false, not, ◌&&◌}
use lib.Dec.{T, ltb, leb, ltb→lt, lt→ltb, leb→le, le→leb, eqb→eq, eqb_refl, nltb→le}
use lib.IntN.{ℤ, pos, negsuc, neg_ℤ, ◌+ℤ◌, ◌-ℤ◌, ◌*ℤ◌, zero-*ℤ, *ℤ-zero, +ℤ_comm, +ℤ_idl, +ℤ_idr, +ℤ_invr, neg_ℤ-+ℤ, neg_ℤ-neg_ℤ, -ℤ-+ℤ_cancel}
use lib.Arith.{le→nltb}
use lib.Signed.{lt_z, le_z}
use mir.Facts.{and_yes}
use Rattle.exact.specs.Sign.{Sign, minus, nought, plus, sign, eq_z}
use Rattle.exact.proofs.Parts.{up, down, parts-sub, by_parts}

-- ---- signs alone

abbrev pub flip : Sign → Sign
flip minus = plus
flip nought = nought
flip plus = minus

-- the sign of a product
abbrev pub times : Sign → Sign → Sign
times minus t = flip t
times nought t = nought
times plus t = t

abbrev pub is_plus : Sign → Bool
is_plus minus = false
is_plus nought = false
is_plus plus = true

abbrev pub is_minus : Sign → Bool
is_minus minus = true
is_minus nought = false
is_minus plus = false

abbrev pub is_nought : Sign → Bool
is_nought minus = false
is_nought nought = true
is_nought plus = false

abbrev pub eq_s : Sign → Sign → Bool
eq_s minus t = is_minus t
eq_s nought t = is_nought t
eq_s plus t = is_plus t

-- whether x - y can have the third sign where x has the first and y the second
abbrev pub may_differ : Sign → Sign → Sign → Bool
may_differ minus minus r = true
may_differ minus nought r = is_minus r
may_differ minus plus r = is_minus r
may_differ nought minus r = is_plus r
may_differ nought nought r = is_nought r
may_differ nought plus r = is_minus r
may_differ plus minus r = is_plus r
may_differ plus nought r = is_plus r
may_differ plus plus r = true

-- a test at all three signs
abbrev pub every : (Sign → Bool) → Bool
every f = f minus && (f nought && f plus)

pub every-at : (f : Sign → Bool) → T (every f) → (s : Sign) → T (f s)
every-at f t s = at s (and_yes (f minus) (f nought && f plus) t).0 (and_yes (f nought) (f plus) (and_yes (f minus) (f nought && f plus) t).1)
  where
    at : (s : Sign) → T (f minus) → T (f nought) × T (f plus) → T (f s)
    at minus a b = a
    at nought a b = b.0
    at plus a b = b.1

-- a test that need only pass where the first one does; it waits behind a λ, so that nothing is computed where it need not pass
abbrev pub provided : Bool → (Unit {0} → Bool) → Bool
provided true f = f tt
provided false f = true

pub provided-yes : (b : Bool) (f : Unit {0} → Bool) → T (provided b f) → T b → T (f tt)
provided-yes true f t h = t
provided-yes false f t h = absurd h

pub eq_s-eq : (s t : Sign) → T (eq_s s t) → s ≡ t
eq_s-eq minus minus h = refl
eq_s-eq minus nought h = absurd h
eq_s-eq minus plus h = absurd h
eq_s-eq nought minus h = absurd h
eq_s-eq nought nought h = refl
eq_s-eq nought plus h = absurd h
eq_s-eq plus minus h = absurd h
eq_s-eq plus nought h = absurd h
eq_s-eq plus plus h = refl

pub eq_s-refl : (s : Sign) → T (eq_s s s)
eq_s-refl minus = tt
eq_s-refl nought = tt
eq_s-refl plus = tt

-- ---- the signs of a negation, a product and a difference

pub sign-neg : (z : ℤ) → sign (neg_ℤ z) ≡ flip (sign z)
sign-neg (pos zero) = refl
sign-neg (pos (suc n)) = refl
sign-neg (negsuc n) = refl

sign-product : (a b : ℕ) → sign (pos (suc a * suc b)) ≡ plus
sign-product a b = ap (λ (n : ℕ). sign (pos n)) (suc-mul a (suc b) ∙ add-suc (a * suc b) b)

pub sign-mul : (x y : ℤ) → sign (x *ℤ y) ≡ times (sign x) (sign y)
sign-mul (pos zero) y = ap sign (zero-*ℤ y)
sign-mul (pos (suc a)) (pos zero) = ap sign (*ℤ-zero (pos (suc a)))
sign-mul (pos (suc a)) (pos (suc b)) = sign-product a b
sign-mul (pos (suc a)) (negsuc b) = sign-neg (pos (suc a * suc b)) ∙ ap flip (sign-product a b)
sign-mul (negsuc a) (pos zero) = ap sign (*ℤ-zero (negsuc a))
sign-mul (negsuc a) (pos (suc b)) = sign-neg (pos (suc a * suc b)) ∙ ap flip (sign-product a b)
sign-mul (negsuc a) (negsuc b) = sign-product a b

pub sign-turn : (x a : ℤ) → sign (a -ℤ x) ≡ flip (sign (x -ℤ a))
sign-turn x a = ap sign turned ∙ sign-neg (x -ℤ a)
  where
    turned : a -ℤ x ≡ neg_ℤ (x -ℤ a)
    turned = sym (neg_ℤ-+ℤ x (neg_ℤ a) ∙ ap (λ (z : ℤ). neg_ℤ x +ℤ z) (neg_ℤ-neg_ℤ a) ∙ +ℤ_comm (neg_ℤ x) a)

pub sign-sub : (x y : ℤ) → T (may_differ (sign x) (sign y) (sign (x -ℤ y)))
sign-sub (pos zero) (pos zero) = tt
sign-sub (pos zero) (pos (suc b)) = subst (λ (z : ℤ). T (is_minus (sign z))) (sym (+ℤ_idl (negsuc b))) tt
sign-sub (pos zero) (negsuc b) = subst (λ (z : ℤ). T (is_plus (sign z))) (sym (+ℤ_idl (pos (suc b)))) tt
sign-sub (pos (suc a)) (pos zero) = subst (λ (z : ℤ). T (is_plus (sign z))) (sym (+ℤ_idr (pos (suc a)))) tt
sign-sub (pos (suc a)) (pos (suc b)) = tt
sign-sub (pos (suc a)) (negsuc b) = subst (λ (n : ℕ). T (is_plus (sign (pos n)))) (sym (add-suc (suc a) b)) tt
sign-sub (negsuc a) (pos zero) = subst (λ (z : ℤ). T (is_minus (sign z))) (sym (+ℤ_idr (negsuc a))) tt
sign-sub (negsuc a) (pos (suc b)) = tt
sign-sub (negsuc a) (negsuc b) = tt

pub sign-add : (x y : ℤ) → T (may_differ (sign x) (flip (sign y)) (sign (x +ℤ y)))
sign-add x y = subst (λ (s : Sign). T (may_differ (sign x) s (sign (x +ℤ y)))) (sign-neg y) (subst (λ (z : ℤ). T (may_differ (sign x) (sign (neg_ℤ y)) (sign (x +ℤ z)))) (neg_ℤ-neg_ℤ y) (sign-sub x (neg_ℤ y)))

-- where three numbers lie to one another: a - c is the difference of a - b and c - b
pub sign-three : (a b c : ℤ) → T (may_differ (sign (a -ℤ b)) (sign (c -ℤ b)) (sign (a -ℤ c)))
sign-three a b c = subst (λ (z : ℤ). T (may_differ (sign (a -ℤ b)) (sign (c -ℤ b)) (sign z))) apart (sign-sub (a -ℤ b) (c -ℤ b))
  where
    apart : (a -ℤ b) -ℤ (c -ℤ b) ≡ a -ℤ c
    apart = by_parts ((a -ℤ b) -ℤ (c -ℤ b)) (a -ℤ c) (omega (arith, parts-sub (a -ℤ b) (c -ℤ b), parts-sub a b, parts-sub c b, parts-sub a c))

pub sign-nought : (z : ℤ) → sign z ≡ nought → z ≡ pos 0
sign-nought (pos zero) e = refl
sign-nought (pos (suc n)) e = absurd (subst (λ (s : Sign). T (is_plus s)) e tt)
sign-nought (negsuc n) e = absurd (subst (λ (s : Sign). T (is_minus s)) e tt)

pub sub-zero : (x a : ℤ) → x -ℤ a ≡ pos 0 → x ≡ a
sub-zero x a e = sym (-ℤ-+ℤ_cancel x a) ∙ ap (λ (z : ℤ). z +ℤ a) e ∙ +ℤ_idl a

pub sub-nought : (x a : ℤ) → sign (x -ℤ a) ≡ nought → x ≡ a
sub-nought x a e = sub-zero x a (sign-nought (x -ℤ a) e)

-- ---- equality as a test

pub eq_z-eq : (a x : ℤ) → T (eq_z a x) → a ≡ x
eq_z-eq (pos a) (pos x) t = ap pos (eqb→eq a x t)
eq_z-eq (pos a) (negsuc x) t = absurd t
eq_z-eq (negsuc a) (pos x) t = absurd t
eq_z-eq (negsuc a) (negsuc x) t = ap negsuc (eqb→eq a x t)

pub eq_z-refl : (a : ℤ) → T (eq_z a a)
eq_z-refl (pos a) = eqb_refl a
eq_z-refl (negsuc a) = eqb_refl a

-- ---- each comparison is a test of the difference's sign

-- two tests that pass together are the same test
pub same_test : (b c : Bool) → (T b → T c) → (T c → T b) → b ≡ c
same_test true true f g = refl
same_test true false f g = absurd (f tt)
same_test false true f g = absurd (g tt)
same_test false false f g = refl

ltb-same : (a b c d : ℕ) → (a < b → c < d) → (c < d → a < b) → ltb a b ≡ ltb c d
ltb-same a b c d f g = same_test (ltb a b) (ltb c d) (λ t. lt→ltb c d (f (ltb→lt a b t))) (λ t. lt→ltb a b (g (ltb→lt c d t)))

lt_z-parts : (a x : ℤ) → lt_z a x ≡ ltb (up a + down x) (up x + down a)
lt_z-parts (pos a) (pos x) = ltb-same a x (a + 0) (x + 0) (omega arith) (omega arith)
lt_z-parts (pos a) (negsuc x) = ltb-same 0 0 (a + suc x) (0 + 0) (omega arith) (omega arith)
lt_z-parts (negsuc a) (pos x) = ltb-same 0 1 (0 + 0) (x + suc a) (omega arith) (omega arith)
lt_z-parts (negsuc a) (negsuc x) = ltb-same x a (0 + suc x) (0 + suc a) (omega arith) (omega arith)

plus-parts : (z : ℤ) → ltb (down z) (up z) ≡ is_plus (sign z)
plus-parts (pos zero) = refl
plus-parts (pos (suc n)) = ltb-same 0 (suc n) 0 1 (omega arith) (omega arith)
plus-parts (negsuc n) = ltb-same (suc n) 0 0 0 (omega arith) (omega arith)

pub lt-sign : (a x : ℤ) → lt_z a x ≡ is_plus (sign (x -ℤ a))
lt-sign a x = lt_z-parts a x ∙ ltb-same (up a + down x) (up x + down a) (down (x -ℤ a)) (up (x -ℤ a)) (λ h. omega (arith, parts-sub x a)) (λ h. omega (arith, parts-sub x a)) ∙ plus-parts (x -ℤ a)

pub gt-sign : (a x : ℤ) → lt_z x a ≡ is_minus (sign (x -ℤ a))
gt-sign a x = lt-sign x a ∙ ap is_plus (sign-turn x a) ∙ flipped (sign (x -ℤ a))
  where
    flipped : (s : Sign) → is_plus (flip s) ≡ is_minus s
    flipped minus = refl
    flipped nought = refl
    flipped plus = refl

leb-not : (a b : ℕ) → leb a b ≡ not (ltb b a)
leb-not a b = same_test (leb a b) (not (ltb b a)) (λ t. le→nltb b a (leb→le a b t)) (λ t. le→leb a b (nltb→le b a t))

le_z-not : (a x : ℤ) → le_z a x ≡ not (lt_z x a)
le_z-not (pos a) (pos x) = leb-not a x
le_z-not (pos a) (negsuc x) = refl
le_z-not (negsuc a) (pos x) = refl
le_z-not (negsuc a) (negsuc x) = leb-not x a

pub le-sign : (a x : ℤ) → le_z a x ≡ not (is_minus (sign (x -ℤ a)))
le-sign a x = le_z-not a x ∙ ap not (gt-sign a x)

pub ge-sign : (a x : ℤ) → le_z x a ≡ not (is_plus (sign (x -ℤ a)))
ge-sign a x = le_z-not x a ∙ ap not (lt-sign a x)

pub eq-sign : (a x : ℤ) → eq_z a x ≡ is_nought (sign (x -ℤ a))
eq-sign a x = same_test (eq_z a x) (is_nought (sign (x -ℤ a))) same apart
  where
    same : T (eq_z a x) → T (is_nought (sign (x -ℤ a)))
    same t = subst (λ (z : ℤ). T (is_nought (sign (x -ℤ z)))) (sym (eq_z-eq a x t)) (subst (λ (z : ℤ). T (is_nought (sign z))) (sym (+ℤ_invr x)) tt)

    apart : T (is_nought (sign (x -ℤ a))) → T (eq_z a x)
    apart t = subst (λ (z : ℤ). T (eq_z a z)) (sym (sub-nought x a (sym (eq_s-eq nought (sign (x -ℤ a)) t)))) (eq_z-refl a)
