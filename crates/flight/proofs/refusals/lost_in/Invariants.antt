use Rattle.std.proofs.Common.{◌≡◌, drop}
use Rattle.base.specs.Walks.{first_in}
use Rattle.flight.specs.Refusals.{lost_at}
use Rattle.flight.proofs.refusals.lost_in.Given as goal

abbrev pub invariant-loop-k : goal.invariant-loop-k
invariant-loop-k l = first_in (lost_at l.frames l.i l.good) l.k (drop l.k l.persist) ≡ first_in (lost_at l.frames l.i l.good) 0 l.persist
