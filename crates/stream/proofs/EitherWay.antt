-- Of a register held in columns and one held in pairs of the same numbers: every call, as a record of a stream, meets the same refusal, is answered and counted the same and leaves the same register.
-- Assumes nothing.
use mathlib.Core.Path.{◌≡◌, transport}
use Rattle.districts.specs.Lent.{Lists, formed, means, Leaves}
use Rattle.districts.specs.Pairs as Pairs
use Rattle.districts.proofs.Pairs.{same-meaning, same-formed, ends-alike}
use Rattle.tally.specs.declared.Tally.{Tally}
use Rattle.history.specs.Histories.{Call, made}
use Rattle.stream.specs.Replies.{judged_on, replied, tallied_by, Makes}

module _ (l : Lists) (p : Pairs.Lists) (a : Pairs.Alike l p) (c : Call) where
  pub judged-either-way : judged_on (formed l) (means l) c ≡ judged_on (Pairs.formed p) (Pairs.means p) c
  judged-either-way i = judged_on (same-formed l p a i) (same-meaning l p a i) c

  pub replied-either-way : (t : Tally) → replied (formed l) (means l) t c ≡ replied (Pairs.formed p) (Pairs.means p) t c
  replied-either-way t i = replied (same-formed l p a i) (same-meaning l p a i) t c

  pub tallied-either-way : (t : Tally) → tallied_by (formed l) (means l) t c ≡ tallied_by (Pairs.formed p) (Pairs.means p) t c
  tallied-either-way t i = tallied_by (same-formed l p a i) (same-meaning l p a i) t c

  pub left-either-way : (l' : Lists) (p' : Pairs.Lists) → Makes c l l' → Pairs.Leaves (judged_on (Pairs.formed p) (Pairs.means p) c) (made (Pairs.means p) c) p p'
      → (means l' ≡ Pairs.means p') × (formed l' ≡ Pairs.formed p')
  left-either-way l' p' m n = ends-alike (judged_on (Pairs.formed p) (Pairs.means p) c) (made (Pairs.means p) c) l l' p p' a (transport (λ i. Leaves (judged-either-way i) (made (same-meaning l p a i) c) l l') m) n
