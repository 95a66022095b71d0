use Rattle.device_nodes.proofs.needs.loose_of.Given as goal
use Rattle.device_nodes.specs.Internal.Needs.{AreNodes, LooseBelow}

abbrev pub invariant-loop-n : goal.invariant-loop-n
invariant-loop-n l = record {
  listed : LooseBelow l.view l.n l.loose;
  nodes : AreNodes l.view l.loose;
}
