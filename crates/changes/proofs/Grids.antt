-- Runs of a ring on the grid, and a path read backwards, are on the grid. Assumes nothing.
use Prim.Native.Nat.{ℕ, zero, suc}
use mathlib.Core.Path.{◌≡◌, refl, ap, ◌∙◌}
use mathlib.Core.Bool.{false, ◌||◌}
use mathlib.Core.List.{List, [], ◌∷◌, reverse, reverse-cons}
use lib.ListN.{get_or}
use Rattle.ring.specs.declared.Point.{Point}
use Rattle.ring.specs.Grid.{beyond, some_beyond}
use Rattle.ring.specs.Rings.{at}
use Rattle.ring.proofs.Pick.{neither_left, neither_right}
use Rattle.ring.proofs.Vertices.{origin}
use Rattle.room.specs.Runs.{run}
use Rattle.room.specs.Writing.{numbers_of}
use Rattle.room.proofs.Parts.{both-on-grid}

-- every point of a list on the grid is
each-on-grid : (P : List Point) (i : ℕ) → some_beyond (numbers_of P) ≡ false → (beyond (get_or P i origin).x ≡ false) × (beyond (get_or P i origin).y ≡ false)
unfolding numbers_of
each-on-grid [] i e = (refl, refl)
each-on-grid (p ∷ P) zero e = (neither_left (beyond p.x) _ e, neither_left (beyond p.y) _ (neither_right (beyond p.x) _ e))
each-on-grid (p ∷ P) (suc i) e = each-on-grid P i (neither_right (beyond p.y) _ (neither_right (beyond p.x) _ e))

pub run-on-grid : (P : List Point) → some_beyond (numbers_of P) ≡ false → (i c : ℕ) → some_beyond (numbers_of (run P i c)) ≡ false
unfolding numbers_of run at
run-on-grid P e i zero = refl
run-on-grid P e i (suc c) = let p = each-on-grid P _ e in λ t. p.0 t || (p.1 t || run-on-grid P e (suc i) c t)

pub reverse-on-grid : (W : List Point) → some_beyond (numbers_of W) ≡ false → some_beyond (numbers_of (reverse W)) ≡ false
unfolding numbers_of
reverse-on-grid [] e = refl
reverse-on-grid (p ∷ W) e =
    let rest = neither_right (beyond p.y) _ (neither_right (beyond p.x) _ e) in
    let own : some_beyond (p.x ∷ p.y ∷ []) ≡ false = λ t. neither_left (beyond p.x) _ e t || (neither_left (beyond p.y) _ (neither_right (beyond p.x) _ e) t || false) in
    ap (λ Q. some_beyond (numbers_of Q)) (reverse-cons p W) ∙ both-on-grid (reverse W) (p ∷ []) (reverse-on-grid W rest) own
