-- `records::fields::signed` reads its bytes as the library puts them together. Assumes nothing.
use mathlib.Core.Path.{ap, ◌∙◌}
use mir.Syntax.{w32}
use mir.Val.{SFits, to_z}
use mir.Facts.{to_z-of_z}
use borrow.Author.Rules.{rules}
use Rattle.records.proofs.Reading.{assembled, signed-is}
use Rattle.records.proofs.fields.signed.Goals as goal

pub returns : goal.returns
returns c =
    let fits : SFits w32 c.from_le_bytes.result = search rules in
    to_z-of_z fits ∙ c.from_le_bytes.ensures ∙ ap (to_z w32) (assembled c.args.bytes.now _ c.args.at 3 c.requires c.array.ensures) ∙ signed-is _
