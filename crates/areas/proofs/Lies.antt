-- What an answer about an area says of its rings: off exactly if no ring holds the point, and then the number is the sum; on exactly the first ring that holds it. Assumes nothing.
use Prim.Native.Nat.{ℕ, zero, suc, ◌+◌, ◌<◌}
use native.Mathlib.Decide.{dec_lt}
use native.Mathlib.Omega.{arith}
use mathlib.Core.Path.{◌≡◌, refl, sym, ap, subst, ◌∙◌}
use mathlib.Core.List.{List, [], ◌∷◌}
use lib.IntN.{ℤ, pos, ◌+ℤ◌, +ℤ_assoc, +ℤ_idl, +ℤ_idr}
use lib.ListN.{length, get_or}
use Rattle.ring.specs.declared.Point.{Point}
use Rattle.ring.specs.Turns.{winding}
use Rattle.ring.specs.Locate as Locate
use Rattle.ring.specs.Locate.{Touch, Place, located_on}
use Rattle.areas.specs.Areas.{sum_over, winding_about, Lie, on, off, after_ring, lies_from, lies_in}
use Rattle.areas.proofs.Told.{Told, holds, passed, told, on-or-off}

abbrev pub Holds : List Point → Point → Touch → Type 0
Holds P R t = located_on P R ≡ Locate.on t

-- the ring does not hold R
abbrev pub Apart : List Point → Point → Type 0
Apart P R = (t : Touch) → Holds P R t → ⊥

-- none of the first k rings holds R
abbrev pub NoneBelow : List (List Point) → Point → ℕ → Type 0
NoneBelow Ps R k = (j : ℕ) → j < k → Apart (get_or Ps j []) R

-- the first ring that holds R is ring k
pub record First (Ps : List (List Point)) (R : Point) (k : ℕ) (t : Touch) : Type 0 where
  pub within : k < length Ps
  pub here : Holds (get_or Ps k []) R t
  pub below : NoneBelow Ps R k

-- what an answer says of the rings from number k on, w being the winding number about those before
data Says (Ps : List (List Point)) (R : Point) (k : ℕ) (w : ℤ) : Lie → Type 0 where
  met : (j : ℕ) (t : Touch) → First Ps R j t → Says Ps R k w (on (k + j) t)
  free : NoneBelow Ps R (length Ps) → Says Ps R k w (off (w +ℤ winding_about Ps R))

pub met-or-free : (k : ℕ) (t : Touch) (w : ℤ) → on k t ≡ off w → ⊥
met-or-free k t w e = let clash : ◌≡◌ {A = ℕ} 0 1 = cc in let f : ⊥ = omega arith in f

none_more : (P : List Point) (Ps : List (List Point)) (R : Point) (k : ℕ) → Apart P R → NoneBelow Ps R k → NoneBelow (P ∷ Ps) R (suc k)
none_more P Ps R k a n zero h = a
none_more P Ps R k a n (suc j) h = n j (omega arith)

says : (Ps : List (List Point)) (R : Point) (k : ℕ) (w : ℤ) → Says Ps R k w (lies_from k w Ps R)
unfolding lies_from winding_about sum_over
says [] R k w = subst (λ (z : ℤ). Says [] R k w (off z)) (+ℤ_idr w) (free (λ j h. absurd (let f : ⊥ = omega arith in f)))
says (P ∷ Ps) R k w = one (located_on P R) refl (told P R) (λ v. says Ps R (k + 1) v)
  where
    shift : (l : Lie) → Apart P R → Says Ps R (k + 1) (w +ℤ winding P R) l → Says (P ∷ Ps) R k w l
    shift l a (met j t f) = subst (λ (i : ℕ). Says (P ∷ Ps) R k w (on i t)) (omega arith) (met (suc j) t (record { within = (let h = f.within in omega arith); here = f.here; below = none_more P Ps R j a f.below }))
    shift l a (free n) = subst (λ (z : ℤ). Says (P ∷ Ps) R k w (off z)) (sym (+ℤ_assoc w (winding P R) (winding_about Ps R))) (free (none_more P Ps R (length Ps) a n))

    one : (p : Place) → located_on P R ≡ p → Told P R p → ((v : ℤ) → Says Ps R (k + 1) v (lies_from (k + 1) v Ps R)) → Says (P ∷ Ps) R k w (after_ring k w p (λ v. lies_from (k + 1) v Ps R))
    one p e (holds t) rest = subst (λ (i : ℕ). Says (P ∷ Ps) R k w (on i t)) (omega arith) (met 0 t (record { within = omega arith; here = e; below = λ j h. absurd (let f : ⊥ = omega arith in f) }))
    one p e passed rest = shift _ (λ t h. on-or-off t _ _ (sym h ∙ e)) (rest (w +ℤ winding P R))

-- ---- about all rings of an area

module _ (Ps : List (List Point)) (R : Point) where
  -- R lies off an area: no ring holds it, and the number is the winding number about the area
  pub lies-off : (w : ℤ) → lies_in Ps R ≡ off w → (w ≡ winding_about Ps R) × NoneBelow Ps R (length Ps)
  lies-off w e = go (lies_in Ps R) e (says Ps R 0 (pos 0))
    where
      go : (l : Lie) → l ≡ off w → Says Ps R 0 (pos 0) l → (w ≡ winding_about Ps R) × NoneBelow Ps R (length Ps)
      go l e (met j t f) = absurd (met-or-free (0 + j) t w e)
      go l e (free n) = ((let same : w ≡ pos 0 +ℤ winding_about Ps R = cc in same ∙ +ℤ_idl (winding_about Ps R)), n)

  -- R lies on ring k: that is the first ring that holds it, and it is held there
  pub lies-on : (k : ℕ) (t : Touch) → lies_in Ps R ≡ on k t → First Ps R k t
  lies-on k t e = go (lies_in Ps R) e (says Ps R 0 (pos 0))
    where
      go : (l : Lie) → l ≡ on k t → Says Ps R 0 (pos 0) l → First Ps R k t
      go l e (met j u f) =
          let number : 0 + j ≡ k = cc in
          let touch : u ≡ t = cc in
          subst (λ (i : ℕ). First Ps R i t) (omega (arith, number)) (subst (First Ps R j) touch f)
      go l e (free n) = absurd (met-or-free k t _ (sym e))

  -- where no ring holds R, it lies off
  pub off-lies : NoneBelow Ps R (length Ps) → lies_in Ps R ≡ off (winding_about Ps R)
  off-lies n = go (lies_in Ps R) refl (says Ps R 0 (pos 0))
    where
      go : (l : Lie) → lies_in Ps R ≡ l → Says Ps R 0 (pos 0) l → l ≡ off (winding_about Ps R)
      go l e (met j t f) = absurd (n j f.within t f.here)
      go l e (free m) = ap off (+ℤ_idl (winding_about Ps R))

  -- and on the first ring that holds it
  pub on-lies : (k : ℕ) (t : Touch) → First Ps R k t → lies_in Ps R ≡ on k t
  on-lies k t f = go (lies_in Ps R) refl (says Ps R 0 (pos 0))
    where
      same : (j : ℕ) (u : Touch) → First Ps R j u → j ≡ k
      same j u g = elim (dec_lt j k) [
        | yes low ↦ absurd (f.below j low u g.here)
        | no high ↦ elim (dec_lt k j) [ yes over ↦ absurd (g.below k over t f.here) | no top ↦ omega arith ]
      ]

      go : (l : Lie) → lies_in Ps R ≡ l → Says Ps R 0 (pos 0) l → l ≡ on k t
      go l e (met j u g) =
          let number : 0 + j ≡ k = omega (arith, same j u g) in
          let held : Holds (get_or Ps k []) R u = subst (λ (i : ℕ). Holds (get_or Ps i []) R u) (same j u g) g.here in
          let there = f.here in
          let touch : u ≡ t = cc in
          λ i. on (number i) (touch i)
      go l e (free m) = absurd (m k f.within t f.here)
