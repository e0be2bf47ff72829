-- `wording::lines::end_line` puts five numbers behind their words. Assumes nothing.
use Rattle.std.proofs.Common.{zero-le, arith, rules}
use Rattle.wording.specs.Text.{ascii}
use Rattle.wording.proofs.Laying.{put_on, word-put_on}
use Rattle.wording.proofs.Decimals.{word-put-ends}
use Rattle.wording.proofs.Written.{written}
use Rattle.wording.proofs.lines.end_line.Goals as goal

pub worded-requires-2 : goal.worded-requires-2
unfolding ascii
worded-requires-2 c = omega (arith, word-put-ends (ascii "end ") _ c.worded.ensures)

pub worded-requires-3 : goal.worded-requires-3
unfolding ascii
worded-requires-3 c = omega (arith, word-put-ends (ascii "end ") _ c.worded.ensures, word-put-ends (ascii " one ") _ c.worded-2.ensures)

pub worded-requires-4 : goal.worded-requires-4
unfolding ascii
worded-requires-4 c = omega (arith, word-put-ends (ascii "end ") _ c.worded.ensures, word-put-ends (ascii " one ") _ c.worded-2.ensures, word-put-ends (ascii " border ") _ c.worded-3.ensures)

pub worded-requires-5 : goal.worded-requires-5
unfolding ascii
worded-requires-5 c = omega (arith, word-put-ends (ascii "end ") _ c.worded.ensures, word-put-ends (ascii " one ") _ c.worded-2.ensures, word-put-ends (ascii " border ") _ c.worded-3.ensures, word-put-ends (ascii " none ") _ c.worded-4.ensures)

pub put-requires : goal.put-requires
unfolding ascii
put-requires c = omega (arith, word-put-ends (ascii "end ") _ c.worded.ensures, word-put-ends (ascii " one ") _ c.worded-2.ensures, word-put-ends (ascii " border ") _ c.worded-3.ensures, word-put-ends (ascii " none ") _ c.worded-4.ensures, word-put-ends (ascii " several ") _ c.worded-5.ensures)

pub returns : goal.returns
unfolding ascii
returns c =
    let to-ones = word-put_on (ascii " one ") _ zero-le c.worded.ensures c.worded-2.ensures in
    let to-borders = word-put_on (ascii " border ") _ zero-le to-ones c.worded-3.ensures in
    let to-nones = word-put_on (ascii " none ") _ zero-le to-borders c.worded-4.ensures in
    let to-severals = word-put_on (ascii " several ") _ zero-le to-nones c.worded-5.ensures in
    let all = put_on zero-le to-severals c.put.ensures in
    search (rules, written _ _ _ _ c.if-to-lt-ROOM.false all.laid, all.list)
