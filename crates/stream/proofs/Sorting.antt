-- A report's answer by the index that a desk keeps, or makes anew. Assumes nothing.
use mathlib.Core.Path.{◌≡◌, sym, subst, transport}
use Rattle.std.specs.Prelude.{Option, None, Some, MatchOption}
use Rattle.ring.specs.Columns.{points}
use Rattle.districts.specs.Lists.{meaning}
use Rattle.districts.specs.Lent.{Lists, outline_of, means}
use Rattle.districts.specs.Held.{StoreOf}
use Rattle.districts.specs.declared.store.Store.{Store}
use Rattle.index.specs.declared.Index.{Index}
use Rattle.index.specs.Both.{Indexed, Fitting}

module _ (l : Lists) (s : Store) (same : StoreOf l s) where
  -- what the store means beside the outline
  pub store-means : meaning (outline_of l) (points s.sx.now s.sy.now) s.runs.list.now ≡ means l
  store-means i = meaning (outline_of l) (points (same.0 i) (same.1 i)) (same.2 i)

  module _ (o : Option Index) (r : Index) (fit : Fitting o l.sx l.sy l.runs) (said : MatchOption o (Indexed s.sx.now s.sy.now s.runs.list.now r) (λ x. r ≡ x)) where
    -- the index fits the lists, kept or new
    pub fits : Indexed l.sx l.sy l.runs r
    fits = say o fit said
      where
        say : (o : Option Index) → Fitting o l.sx l.sy l.runs → MatchOption o (Indexed s.sx.now s.sy.now s.runs.list.now r) (λ x. r ≡ x) → Indexed l.sx l.sy l.runs r
        say None f new = transport (λ i. Indexed (same.0 i) (same.1 i) (same.2 i) r) new
        say (Some x) f e = subst (Indexed l.sx l.sy l.runs) (sym e) f

    -- and so it fits the store
    pub fits-store : Indexed s.sx.now s.sy.now s.runs.list.now r
    fits-store = transport (λ i. Indexed (sym same.0 i) (sym same.1 i) (sym same.2 i) r) fits
