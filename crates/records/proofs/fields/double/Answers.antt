-- `records::fields::double` reads its bytes as the library puts them together. Assumes nothing.
use mathlib.Core.Path.{ap, ◌∙◌}
use lib.Ieee.{binary64, of_bits}
use Rattle.records.proofs.Reading.{assembled}
use Rattle.records.proofs.fields.double.Goals as goal

pub returns : goal.returns
returns c = c.f64_from_bits_with_nan.ensures ∙ ap (of_bits binary64) (c.from_le_bytes.ensures ∙ assembled c.args.bytes.now _ c.args.at 7 c.requires c.array.ensures)
