use Rattle.std.proofs.Common.{◌≡◌, ◌++◌, drop}
use Rattle.flight.specs.Internal.Left.{left_after}
use Rattle.flight.proofs.holders.left_after.Given as goal

abbrev pub invariant-loop-k : goal.invariant-loop-k
invariant-loop-k l = l.after ++ left_after l.i (drop l.k l.holders) (drop l.k l.left) ≡ left_after l.i l.holders l.left
