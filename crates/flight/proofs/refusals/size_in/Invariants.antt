use Rattle.std.proofs.Common.{◌≡◌, drop}
use Rattle.base.specs.Walks.{first_in}
use Rattle.flight.specs.Flights.{size_at}
use Rattle.flight.proofs.refusals.size_in.Given as goal

abbrev pub invariant-loop-i : goal.invariant-loop-i
invariant-loop-i l = first_in (size_at l.name) l.i (drop l.i l.frames) ≡ first_in (size_at l.name) 0 l.frames
