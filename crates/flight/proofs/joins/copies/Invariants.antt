use Rattle.std.proofs.Common.{◌≡◌, take, map}
use Rattle.flight.specs.Internal.Left.{carried}
use Rattle.law_window.specs.NamedJoins.{named_copy}
use Rattle.flight.proofs.joins.copies.Given as goal

abbrev pub invariant-loop-carry : goal.invariant-loop-carry
invariant-loop-carry l = l.ops ≡ map (λ carry. named_copy (carried carry)) (take l.carry-index l.carries)
