-- `records::fields::four` reads its bytes as the library puts them together. Assumes nothing.
use mathlib.Core.Path.{◌∙◌}
use Rattle.records.proofs.Reading.{assembled}
use Rattle.records.proofs.fields.four.Goals as goal

pub returns : goal.returns
returns c = c.from_le_bytes.ensures ∙ assembled c.args.bytes.now _ c.args.at 3 c.requires c.array.ensures
