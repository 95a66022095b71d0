use Rattle.std.proofs.Common.{◌≡◌, ◌++◌}
use Rattle.flight.proofs.resources.append.Given as goal

abbrev pub invariant-loop-resource : goal.invariant-loop-resource
invariant-loop-resource l = l.all ≡ l.fn.all ++ l.yielded
