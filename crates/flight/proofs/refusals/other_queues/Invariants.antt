use Rattle.std.proofs.Common.{◌≡◌, drop}
use Rattle.base.specs.Walks.{first_in}
use Rattle.flight.specs.Refusals.{other_at}
use Rattle.flight.proofs.refusals.other_queues.Given as goal

abbrev pub invariant-loop-i : goal.invariant-loop-i
invariant-loop-i l = first_in (other_at l.queues) l.i (drop l.i l.frames) ≡ first_in (other_at l.queues) 0 l.frames
