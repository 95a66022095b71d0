use Rattle.std.proofs.Common.{◌≡◌, ◌++◌, drop}
use Rattle.flight.specs.Internal.Left.{carries_by}
use Rattle.flight.proofs.joins.carries_by.Given as goal

abbrev pub invariant-loop-k : goal.invariant-loop-k
invariant-loop-k l = l.carries ++ carries_by l.i l.resources (drop l.k l.holders) (drop l.k l.left) ≡ carries_by l.i l.resources l.holders l.left
