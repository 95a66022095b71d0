use Rattle.std.proofs.Common.{arith}
use Rattle.frame.specs.Numbered.{numbered}
use Rattle.compile_groups.proofs.Lists.{took, took_all}
use Rattle.compile_groups.proofs.setting.families.Goals as goal

pub loop-queue-preserved : goal.loop-queue-preserved
loop-queue-preserved c = took (numbered c.args.frame.now).queues c.loop-queue.families c.push.new.self c.loop-queue.queue c.family.result c.loop-queue.invariant c.family.ensures c.in_ok-push.ensures.ok

pub returns : goal.returns
returns c =
    let count = c.queue_count-queue-end.ensures in
    let end = c.loop-queue-test.false in
    took_all (numbered c.args.frame.now).queues c.loop-queue.families c.loop-queue.queue (omega (arith, count, end)) c.loop-queue.invariant
