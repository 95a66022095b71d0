use Rattle.std.proofs.Common.{arith}
use Rattle.check_table.specs.Channels.{channel_at, left_by}
use Rattle.check_table.proofs.Marks.{marked}
use Rattle.check_table.proofs.words.left_word.Goals as goal

pub loop-c-preserved : goal.loop-c-preserved
loop-c-preserved c = marked (λ d. left_by (channel_at c.args.channels.now d) c.args.stage.0) c.loop-c.c c.loop-c.word c.marked-word.result c.left_by.result c.loop-c.invariant (omega (arith, c.loop-c-test.true, c.requires.few)) c.left_by.ensures c.marked-word.ensures.own c.marked-word.ensures.others
