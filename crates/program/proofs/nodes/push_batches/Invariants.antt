use Rattle.std.proofs.Common.{◌≡◌, ◌++◌, drop}
use Rattle.program.specs.Internal.Nodes.{batch_nodes}
use Rattle.program.specs.Places.{all_in}
use Rattle.program.proofs.nodes.push_batches.Given as goal

abbrev pub invariant-loop-b : goal.invariant-loop-b
invariant-loop-b l = l.nodes ++ all_in (batch_nodes l.queue) l.b (drop l.b l.batches) ≡ l.initial.nodes ++ all_in (batch_nodes l.queue) 0 l.batches
