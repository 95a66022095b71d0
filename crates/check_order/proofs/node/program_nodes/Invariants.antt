use Rattle.std.proofs.Common.{◌≡◌, map, take, length}
use Rattle.check_order.specs.Nodes.{entry_node}
use Rattle.program.specs.Entries.{entries_of}
use Rattle.check_order.proofs.node.program_nodes.Given as goal

abbrev pub invariant-loop-n : goal.invariant-loop-n
invariant-loop-n l = l.nodes ≡ map (entry_node (length l.shaped.queues)) (take l.n (entries_of l.shaped))
