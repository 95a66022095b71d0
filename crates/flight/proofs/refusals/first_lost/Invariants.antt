use Rattle.std.proofs.Common.{◌≡◌, drop}
use Rattle.base.specs.Walks.{first_in}
use Rattle.flight.specs.Refusals.{lost_in}
use Rattle.flight.proofs.refusals.first_lost.Given as goal

abbrev pub invariant-loop-i : goal.invariant-loop-i
invariant-loop-i l = first_in (lost_in l.frames l.persist) l.i (drop l.i l.frames) ≡ first_in (lost_in l.frames l.persist) 0 l.frames
