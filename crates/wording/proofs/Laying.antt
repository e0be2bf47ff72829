-- Texts laid over a lent list, one behind the other. Assumes nothing.
use Prim.Native.Nat.{ℕ, ◌+◌, ◌≤◌}
use native.Mathlib.Omega.{arith}
use mathlib.Core.Path.{◌≡◌, sym, ap, ◌∙◌}
use mathlib.Core.List.{List, ◌++◌, append_assoc}
use lib.ListN.{length, take, drop, length-append}
use lib.Seq.{drop-drop, drop_at, take_at, length-take-le}
use Rattle.wording.specs.declared.text.Line.{Line}
use Rattle.wording.specs.Text.{laid, Laid}
use Rattle.wording.specs.Putting.{Put}

-- ---- one behind the other

laid-laid : (at : ℕ) (s t before : List ℕ) → at ≤ length before → laid (at + length s) t (laid at s before) ≡ laid at (s ++ t) before
laid-laid at s t before h =
    let front = take at before ++ s in
    let rest = drop (at + length s) before in
    let here : length front ≡ at + length s = length-append (take at before) s ∙ ap (λ n. n + length s) (length-take-le at before h) in
    let behind : drop (at + length s + length t) (front ++ rest) ≡ drop (at + length s + length t) before = sym (drop-drop (length t) (at + length s) (front ++ rest)) ∙ ap (drop (length t)) (drop_at front rest (at + length s) here) ∙ drop-drop (length t) (at + length s) before in
    let places : at + length s + length t ≡ at + length (s ++ t) = omega (arith, length-append s t) in
    (λ i. take_at front rest (at + length s) here i ++ t ++ behind i)
    ∙ (λ i. append_assoc (take at before) s t i ++ drop (places i) before)

pub joined : {at mid r : ℕ} {s t before between after : List ℕ} → at ≤ length before → Laid mid at s before between → Laid r mid t between after → Laid r at (s ++ t) before after
joined {at = at} {s = s} {t = t} {before = before} h one two = record {
  behind = omega (arith, one.behind, two.behind, length-append s t);
  left = two.left ∙ (λ i. laid (one.behind i) t (one.left i)) ∙ laid-laid at s t before h;
}

-- a text is another of the same characters
pub laid_as : {r at : ℕ} {s t before after : List ℕ} → s ≡ t → Laid r at s before after → Laid r at t before after
laid_as {at = at} {before = before} e l = record { behind = l.behind ∙ ap (λ x. at + length x) e; left = l.left ∙ ap (λ x. laid at x before) e }

-- a word and what follows it, behind another text
pub word-joined : {at mid r : ℕ} {s before between after : List ℕ} (t u : List ℕ) → at ≤ length before → Laid mid at s before between → Laid r mid (t ++ u) between after → Laid r at (s ++ t ++ u) before after
word-joined {s = s} t u h one two = laid_as (sym (append_assoc s t u)) (joined h one two)

-- the same of lines
pub put_on : {s t : List ℕ} {a b c : Line} → a.at ≤ length a.to.now → Put s a b → Put t b c → Put (s ++ t) a c
put_on h p q = record { list = q.list ∙ p.list; long = q.long ∙ p.long; laid = joined h p.laid q.laid }

pub put_as : {s t : List ℕ} {a b : Line} → s ≡ t → Put s a b → Put t a b
put_as e p = record { list = p.list; long = p.long; laid = laid_as e p.laid }

pub word-put_on : {s : List ℕ} {a b c : Line} (t u : List ℕ) → a.at ≤ length a.to.now → Put s a b → Put (t ++ u) b c → Put (s ++ t ++ u) a c
word-put_on {s = s} t u h p q = put_as (sym (append_assoc s t u)) (put_on h p q)
