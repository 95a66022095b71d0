use Rattle.compile_queues.proofs.Walking.{names_more}
use Rattle.compile_queues.proofs.queues.names_of.Goals as goal

pub loop-queue-preserved : goal.loop-queue-preserved
loop-queue-preserved c = names_more c.args.frame.now c.args.queues.now c.loop-queue.queue-index c.index.result.now c.loop-queue.names c.push.new.self _ c.loop-queue-test.true (c.requires c.loop-queue.queue-index 0 c.loop-queue-test.true) c.index.ensures c.loop-queue.invariant c.in_ok-push.ensures.ok
