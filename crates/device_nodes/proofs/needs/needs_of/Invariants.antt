use Rattle.device_nodes.proofs.needs.needs_of.Given as goal
use Rattle.device_nodes.specs.Internal.Needs.{NeedsBelow}

abbrev pub invariant-loop-n : goal.invariant-loop-n
invariant-loop-n l = NeedsBelow l.view l.n l.list
