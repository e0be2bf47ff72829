-- Of every finite double there is one nearest millimetre, and the conversion gives it; and what each of its answers
-- tells of the two doubles. Assumes nothing.
use Prim.Native.Nat.{ℕ, ◌+◌, ◌*◌, ◌%◌, ◌≤◌, ◌<◌}
use native.Mathlib.Omega.{arith}
use mathlib.Core.Path.{◌≡◌, refl, sym, ap, ◌∙◌, subst}
use mathlib.Core.Logic.{◌⊎◌, inl, inr}
use mathlib.Core.Bool.{Bool, true, false, not, ◌&&◌, ◌||◌}
use lib.Dec.{T, lit≤}
use lib.IntN.{ℤ, pos, negsuc, neg_ℤ, nat_abs, ◌-ℤ◌, ◌*ℤ◌}
use lib.Ieee.{Float, nan, inf, fin, up as numerator, down as denominator}
use lib.Ieee.Fits.{down_pos}
use Rattle.exact.proofs.Parts.{up, down, parts-neg, parts-sub, parts-mul, by_parts}
use Rattle.std.specs.Prelude.{Result, Ok, Err}
use Rattle.refusals.specs.declared.Refusal.{Refusal}
use Rattle.refusals.specs.declared.Refusal.TheVariants.{NotFinite, BeyondGrid}
use Rattle.ring.specs.declared.Point.{Point}
use Rattle.ring.specs.Grid.{point, beyond}
use Rattle.ring.specs.Choices.{pick}
use Rattle.ring.proofs.Pick.{pick_true, pick-false, neither_left, neither_right}
use Rattle.fixes.specs.Nearest.{Nearest, NearestTo, with_sign, finite, in_metre}
use Rattle.fixes.specs.Millimetres.{rounded, millimetres, placed}
use Rattle.fixes.proofs.Closest.{Closest, one-closest, rounded-closest}

-- a half asked of the definition alone: 0.0625 metres
pub half-to-even : NearestTo (fin false 1 (negsuc 3)) (pos 62)
half-to-even = record { near = lit≤ tt; even = λ _. refl }

-- ---- the definition on natural parts

size-parts : (n : ℤ) → nat_abs n ≡ up n + down n
size-parts (pos n) = omega arith
size-parts (negsuc n) = omega arith

-- the distance of d n from z is the difference of their natural parts, one way or the other
distance : (z : ℤ) (d : ℕ) (n : ℤ) → let k = nat_abs (pos d *ℤ n -ℤ z) in
    (d * up n + down z ≡ d * down n + up z + k) ⊎ (d * down n + up z ≡ d * up n + down z + k)
distance z d n = go (pos d *ℤ n -ℤ z) (omega (arith, parts-sub (pos d *ℤ n) z, parts-mul (pos d) n))
  where
    go : (g : ℤ) → up g + (d * down n + up z) ≡ down g + (d * up n + down z)
        → (d * up n + down z ≡ d * down n + up z + nat_abs g) ⊎ (d * down n + up z ≡ d * up n + down z + nat_abs g)
    go (pos k) e = inl (omega arith)
    go (negsuc k) e = inr (omega arith)

closest-of : (z : ℤ) (d : ℕ) (n : ℤ) → Nearest z d n → Closest (up z) (down z) d (up n) (down n)
closest-of z d n h =
    let k = nat_abs (pos d *ℤ n -ℤ z) in
    let near : 2 * k ≤ d = h.near in
    let apart : (d * up n + down z ≤ d * down n + up z + k) × (d * down n + up z ≤ d * up n + down z + k) =
    elim (distance z d n) [ inl e ↦ omega arith | inr e ↦ omega arith ] in
    let even : 2 * k ≡ d → (up n + down n) % 2 ≡ 0 = λ e. omega (arith, h.even e, size-parts n) in
    record { above = omega arith; below = omega arith; even-above = λ e. even (omega arith); even-below = λ e. even (omega arith) }

nearest-of : (z : ℤ) (d : ℕ) (n : ℤ) → Closest (up z) (down z) d (up n) (down n) → Nearest z d n
nearest-of z d n h = elim (distance z d n) [
  | inl e ↦ record { near = omega (arith, h.above); even = λ t. omega (arith, h.even-above (omega arith), size-parts n) }
  | inr e ↦ record { near = omega (arith, h.below); even = λ t. omega (arith, h.even-below (omega arith), size-parts n) }
]

turned : (u v d m n : ℕ) → Closest u v d m n → Closest v u d n m
turned u v d m n h = record {
  above = h.below;
  below = h.above;
  even-above = λ e. omega (arith, h.even-below e);
  even-below = λ e. omega (arith, h.even-above e);
}

-- the size rounded, with its sign
signed : (s : Bool) (a d : ℕ) → 0 < d → Nearest (with_sign s a) d (with_sign s (rounded a d))
signed false a d h = nearest-of (pos a) d (pos (rounded a d)) (rounded-closest a d h)
signed true a d h =
    let r = rounded a d in
    let c : Closest 0 a d 0 r = turned a 0 d r 0 (rounded-closest a d h) in
    nearest-of (neg_ℤ (pos a)) d (neg_ℤ (pos r)) (rw ((parts-neg (pos a)).0, (parts-neg (pos a)).1, (parts-neg (pos r)).0, (parts-neg (pos r)).1) c)

-- ---- one nearest, and it is the conversion's

pub nearest-is : (x : Float) → finite x ≡ true → NearestTo x (millimetres x)
nearest-is nan f = subst T (sym f) tt
nearest-is (inf s) f = subst T (sym f) tt
nearest-is (fin s m e) f = signed s (in_metre * m * numerator e) (denominator e) (down_pos e)

pub one-nearest : (x : Float) (m n : ℤ) → NearestTo x m → NearestTo x n → m ≡ n
one-nearest nan m n h k = absurd h
one-nearest (inf s) m n h k = absurd h
one-nearest (fin s a e) m n h k =
    let z = with_sign s (in_metre * a * numerator e) in
    by_parts m n (one-closest (up z) (down z) (denominator e) (up m) (down m) (up n) (down n) (down_pos e) (closest-of z (denominator e) m h) (closest-of z (denominator e) n k))

-- ---- what an answer tells

-- no second answer meets the promise
pub one-placing : (easting northing : Float) (p q : Result Point Refusal) → p ≡ placed easting northing → q ≡ placed easting northing → p ≡ q
one-placing easting northing p q d e = d ∙ sym e

-- what is so of two doubles where the conversion answers so; it refuses for no other reason
abbrev pub Means : Float → Float → Result Point Refusal → Type 0
Means easting northing (Ok p) = (NearestTo easting p.x × NearestTo northing p.y) × ((beyond p.x ≡ false) × (beyond p.y ≡ false))
Means easting northing (Err BeyondGrid) =
    ((finite easting ≡ true) × (finite northing ≡ true))
    × ((x y : ℤ) → NearestTo easting x → NearestTo northing y → (beyond x || beyond y) ≡ true)
Means easting northing (Err NotFinite) = (finite easting && finite northing) ≡ false
Means easting northing (Err _) = ⊥

both-asked : {f g : Bool} → f ≡ true → g ≡ true → not (f && g) ≡ false
both-asked d e = λ i. not (d i && e i)

pub placed-means : (easting northing : Float) (p : Result Point Refusal) → placed easting northing ≡ p → Means easting northing p
placed-means easting northing p same = subst (Means easting northing) same (go (finite easting) (finite northing) (beyond (millimetres easting) || beyond (millimetres northing)) refl refl refl)
  where
    go : (f g b : Bool) → finite easting ≡ f → finite northing ≡ g → (beyond (millimetres easting) || beyond (millimetres northing)) ≡ b
        → Means easting northing (pick (not (f && g)) (Err NotFinite) (pick b (Err BeyondGrid) (Ok (point (millimetres easting) (millimetres northing)))))
    go true true true d e h = (
      (d, e),
      λ x y k l. (λ i. beyond (one-nearest easting x _ k (nearest-is easting d) i) || beyond (one-nearest northing y _ l (nearest-is northing e) i)) ∙ h,
    )
    go true true false d e h = ((nearest-is easting d, nearest-is northing e), (neither_left (beyond (millimetres easting)) _ h, neither_right (beyond (millimetres easting)) _ h))
    go true false b d e h = λ i. d i && e i
    go false g b d e h = λ i. d i && e i

has-nearest : (x : Float) (n : ℤ) → NearestTo x n → finite x ≡ true
has-nearest nan n h = absurd h
has-nearest (inf s) n h = absurd h
has-nearest (fin s m e) n h = refl

-- and the answer that tells what is so is the conversion's
pub means-placed : (easting northing : Float) (p : Result Point Refusal) → Means easting northing p → p ≡ placed easting northing
means-placed easting northing (Ok p) ((k, l), (a, b)) =
    let d = has-nearest easting p.x k in
    let e = has-nearest northing p.y l in
    let same-x : p.x ≡ millimetres easting = one-nearest easting p.x _ k (nearest-is easting d) in
    let same-y : p.y ≡ millimetres northing = one-nearest northing p.y _ l (nearest-is northing e) in
    (λ i. Ok (point (same-x i) (same-y i)))
    ∙ sym (pick-false (both-asked d e) _ _ ∙ pick-false (sym (λ i. beyond (same-x i) || beyond (same-y i)) ∙ (λ i. a i || b i)) _ _)
means-placed easting northing (Err BeyondGrid) ((d, e), h) = sym (pick-false (both-asked d e) _ _ ∙ pick_true (h _ _ (nearest-is easting d) (nearest-is northing e)) _ _)
means-placed easting northing (Err NotFinite) h = sym (pick_true (ap not h) _ _)
means-placed easting northing (Err _) h = absurd h
