use Rattle.device_nodes.proofs.Readiness.{NoneBelow}
use Rattle.device_nodes.proofs.control.Control.pick.Given as goal
use Rattle.device_nodes.specs.Internal.Blocked.{Gathers}
use Rattle.device_nodes.specs.Controls.{phase_of}

abbrev pub invariant-loop-n : goal.invariant-loop-n
invariant-loop-n l = record {
  gathers : Gathers l.self.view (phase_of l.self) l.queue l.n l.blocked;
  none : NoneBelow l.self l.queue l.n;
}
