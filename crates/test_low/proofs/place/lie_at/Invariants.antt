use Rattle.std.proofs.Common.{◌≡◌, length}
use Rattle.test_low.proofs.place.lie_at.Given as goal

abbrev pub invariant-loop-pair : goal.invariant-loop-pair
invariant-loop-pair l = l.ordered.count ≡ length l.sizes
