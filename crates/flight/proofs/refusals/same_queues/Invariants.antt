use Rattle.std.proofs.Common.{◌≡◌, drop}
use Rattle.flight.specs.Refusals.{same_queues}
use Rattle.flight.proofs.refusals.same_queues.Given as goal

abbrev pub invariant-loop-i : goal.invariant-loop-i
invariant-loop-i l = same_queues (drop l.i l.a) (drop l.i l.b) ≡ same_queues l.a l.b
