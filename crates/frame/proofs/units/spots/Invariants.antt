use Rattle.std.proofs.Common.{◌≡◌, take}
use Rattle.std.specs.List.{flat_map}
use Rattle.frame.specs.Units.{spots_of}
use Rattle.frame.proofs.units.spots.Given as goal

abbrev pub invariant-loop-resource : goal.invariant-loop-resource
invariant-loop-resource l = l.list ≡ flat_map spots_of (take l.resource-index l.resources)
