use Rattle.std.proofs.Common.{rules}
use Rattle.check_order.proofs.Placed.{program_ready}
use Rattle.check_order.proofs.drain.drain_of.Goals as goal

pub drained-requires-clause-ready : goal.drained-requires-clause-ready
drained-requires-clause-ready c = program_ready c.args.program.now c.deref.result.now c.program.ensures.numbered (search rules) c.args.edges.now c.len-queues.result c.requires.edges (search rules) (search rules) (search rules)
