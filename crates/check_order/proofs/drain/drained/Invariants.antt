use Rattle.std.proofs.Common.{get_or}
use Rattle.check_order.specs.Internal.Queues.{queues_of, left_of}
use Rattle.check_order.proofs.Going.{Going}
use Rattle.check_order.proofs.drain.drained.Given as goal

abbrev pub invariant-nodes : goal.invariant-nodes
invariant-nodes l = Going (queues_of l.edges l.starts) l.queues (get_or l.starts l.queues 0) l.next.items l.order

abbrev pub decreases-nodes : goal.decreases-nodes
decreases-nodes l = left_of (queues_of l.edges l.starts) l.next.items l.queues
