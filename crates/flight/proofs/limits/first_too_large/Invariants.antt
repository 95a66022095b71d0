use Rattle.std.proofs.Common.{◌≡◌, ◌-◌}
use Rattle.flight.specs.Flights.{window_count}
use Rattle.flight.specs.Refusals.{first_too_large}
use Rattle.flight.proofs.limits.first_too_large.Given as goal

abbrev pub invariant-loop-w : goal.invariant-loop-w
invariant-loop-w l = first_too_large l.frames l.persist l.depth (l.w-end - l.w) l.w ≡ first_too_large l.frames l.persist l.depth (window_count l.depth l.frames) 0
