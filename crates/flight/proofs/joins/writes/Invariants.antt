use Rattle.std.proofs.Common.{◌≡◌, take, map}
use Rattle.flight.specs.Internal.Left.{carried}
use Rattle.law_window.specs.NamedJoins.{named_renewal}
use Rattle.flight.proofs.joins.writes.Given as goal

abbrev pub invariant-loop-carry : goal.invariant-loop-carry
invariant-loop-carry l = l.writes ≡ map (λ carry. named_renewal (carried carry)) (take l.carry-index l.carries)
