use Rattle.std.proofs.Common.{◌≡◌, take, map}
use Rattle.law_window.specs.NamedJoins.{whole}
use Rattle.flight.proofs.joins.reads.Given as goal

abbrev pub invariant-loop-carry : goal.invariant-loop-carry
invariant-loop-carry l = l.reads ≡ map (λ carry. whole carry.from) (take l.carry-index l.carries)
