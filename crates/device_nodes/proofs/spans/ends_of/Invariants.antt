use Rattle.device_nodes.proofs.spans.ends_of.Given as goal
use Rattle.device_nodes.specs.Internal.Spans.{Ends}

abbrev pub invariant-loop-n : goal.invariant-loop-n
invariant-loop-n l = Ends l.view l.n l.ends
