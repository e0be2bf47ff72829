-- `Lists::begun` asks the two tests, then hands out the store. Assumes nothing.
use mathlib.Core.Path.{sym, ◌∙◌}
use Rattle.std.specs.Prelude.{Ok}
use Rattle.districts.specs.Held.{lists_of}
use Rattle.districts.proofs.Sound.{runs-length}
use Rattle.districts.proofs.Begun.{begins-so, begun-formed}
use Rattle.districts.proofs.lists.Lists.begun.Goals as goal

pub begins-requires : goal.begins-requires
begins-requires c e = runs-length (lists_of c.args.self.now) (sym c.requires ∙ e)

pub store-requires : goal.store-requires
store-requires c = let l = lists_of c.args.self.now in begun-formed l (sym (begins-so l c.args.good (Ok c.in_ok-begins.field-0) c.requires c.in_ok-begins.ensures))
