-- `records::fields::signed_fields` writes one number after the other. Assumes nothing.
use mir.Syntax.{w32}
use mir.Val.{SFits}
use mir.Facts.{to_z-of_z}
use borrow.Author.Rules.{rules}
use Rattle.std.proofs.Common.{arith}
use Rattle.records.proofs.Reading.{written-more, written-all}
use Rattle.records.proofs.fields.signed_fields.Goals as goal

pub loop-k-preserved : goal.loop-k-preserved
loop-k-preserved c =
    let fits : SFits w32 c.signed.result = search rules in
    simp (to_z-of_z fits) (written-more c.args.bytes.now c.args.at c.args.m c.args.to.now c.loop-k.to c.loop-k.k c.signed.result c.requires.room c.loop-k-test.true c.signed.ensures c.loop-k.invariant)

pub returns : goal.returns
returns c = written-all c.args.bytes.now c.args.at c.args.m c.loop-k.k _ _ (omega arith) c.loop-k.invariant
