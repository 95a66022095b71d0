use Rattle.check_order.proofs.Drained.{next_in_list, met_fits}
use Rattle.check_order.proofs.drain.goes_on.Goals as goal

pub is_open-requires-clause-n : goal.is_open-requires-clause-n
is_open-requires-clause-n c = next_in_list c.args.edges.now c.args.starts.now c.args.queues c.requires.ready c.args.q _ c.requires.q c.if-n-starts.true

pub is_open-requires-clause-met : goal.is_open-requires-clause-met
is_open-requires-clause-met c = met_fits c.args.edges.now c.args.starts.now c.args.queues c.requires.ready c.args.next.now c.requires.next
