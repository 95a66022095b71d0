use Rattle.std.proofs.Common.{◌≡◌, length}
use Rattle.test_low.proofs.bound.is_bound_by.Given as goal

abbrev pub invariant-loop-pair : goal.invariant-loop-pair
invariant-loop-pair l = l.ordered.count ≡ length l.sizes
