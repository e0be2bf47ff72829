-- `Index::empty` fits along both axes. Assumes nothing.
use Rattle.index.proofs.Index.empty.Goals as goal

pub returns : goal.returns
returns c sx sy runs none = record { across = c.empty.ensures sx runs none; up = c.empty-2.ensures sy runs none }
