use Rattle.std.proofs.Common.{◌≡◌, map}
use Rattle.std.specs.List.{range_with_len}
use Rattle.frame_gen.specs.Generated.{resource}
use Rattle.frame_gen.proofs.resources.resources.Given as goal

abbrev pub invariant-loop-i : goal.invariant-loop-i
invariant-loop-i l = l.resources ≡ map resource (range_with_len 0 l.i)
