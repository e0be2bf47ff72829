-- `wording::text::Line::number` puts the digits that the library writes. Assumes nothing.
use mathlib.Core.Path.{◌∙◌}
use Rattle.wording.proofs.Decimals.{decimal-written}
use Rattle.wording.proofs.Laying.{put_as}
use Rattle.wording.proofs.text.Line.number.Goals as goal

pub returns : goal.returns
returns c = put_as (c.as_bytes.ensures.value ∙ c.format.ensures.text ∙ decimal-written c.args.n c.ranges.n.fits) c.put.ensures
