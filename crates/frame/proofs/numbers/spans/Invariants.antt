use Rattle.std.proofs.Common.{◌≡◌, take, map}
use Rattle.frame.specs.Units.{span_of}
use Rattle.frame.proofs.numbers.spans.Given as goal

abbrev pub invariant-loop-spot : goal.invariant-loop-spot
invariant-loop-spot l = l.spans ≡ map (span_of l.table) (take l.spot-index l.spots)
