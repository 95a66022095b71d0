use Rattle.std.proofs.Common.{◌<◌, subst}
use Rattle.frame.specs.Numbered.{numbered}
use Rattle.compile_queues.proofs.Walking.{queue_more}
use Rattle.compile_queues.proofs.queues.queues_of.Goals as goal

pub loop-pass-preserved : goal.loop-pass-preserved
loop-pass-preserved c = queue_more (numbered c.args.frame.now).passes c.loop-pass.pass c.queue_of.result c.loop-pass.queues c.push.new.self (subst (λ n. c.loop-pass.pass < n) c.pass_count-pass-end.ensures.count c.loop-pass-test.true) c.loop-pass.invariant c.queue_of.ensures.queue c.in_ok-push.ensures.ok
