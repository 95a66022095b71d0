use Rattle.std.proofs.Common.{◌≡◌, ◌++◌, drop}
use Rattle.program.specs.Internal.Nodes.{queue_nodes}
use Rattle.program.specs.Places.{all_in}
use Rattle.program.proofs.nodes.push_queues.Given as goal

abbrev pub invariant-loop-q : goal.invariant-loop-q
invariant-loop-q l = l.nodes ++ all_in queue_nodes l.q (drop l.q l.queues) ≡ l.initial.nodes ++ all_in queue_nodes 0 l.queues
