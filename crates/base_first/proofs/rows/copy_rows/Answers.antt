use Rattle.std.proofs.Common.{◌∙◌, arith}
use Rattle.base_first.proofs.Moves.{copied_more}
use Rattle.base_first.proofs.rows.copy_rows.Goals as goal

pub loop-c-preserved : goal.loop-c-preserved
loop-c-preserved c = record {
  size = c.copy_row.ensures.length ∙ c.loop-c.invariant.size;
  copied = copied_more c.loop-c.c c.args.width c.args.to c.args.from c.args.numbers.now c.loop-c.numbers c.copy_row.new.numbers (omega (arith, c.requires.order, c.loop-c-test.true)) c.loop-c.invariant.copied c.copy_row.ensures.copied c.copy_row.ensures.others;
}
