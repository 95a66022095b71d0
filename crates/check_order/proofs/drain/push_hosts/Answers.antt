use Rattle.check_order.proofs.Drained.{host_more}
use Rattle.check_order.proofs.drain.push_hosts.Goals as goal

pub loop-n-preserved : goal.loop-n-preserved
loop-n-preserved c = host_more c.args.order c.loop-n.order c.push.new.self c.args.from c.loop-n.n c.loop-n.auto.n c.loop-n.invariant c.in_ok-push.ensures.ok
