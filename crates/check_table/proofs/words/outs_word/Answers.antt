use Rattle.std.proofs.Common.{arith}
use Rattle.check_table.specs.Channels.{channel_at, outs_of}
use Rattle.check_table.proofs.Marks.{marked}
use Rattle.check_table.proofs.words.outs_word.Goals as goal

pub loop-c-preserved : goal.loop-c-preserved
loop-c-preserved c = marked (λ d. outs_of (channel_at c.args.channels.now d) c.args.node.now c.args.role) c.loop-c.c c.loop-c.word c.marked-word.result c.outs.result c.loop-c.invariant (omega (arith, c.loop-c-test.true, c.requires.few)) c.outs.ensures c.marked-word.ensures.own c.marked-word.ensures.others
