use Rattle.std.proofs.Common.{◌≡◌, map}
use Rattle.std.specs.List.{range_with_len}
use Rattle.frame.specs.Units.{layer_spot}
use Rattle.frame.proofs.units.layer_spots.Given as goal

abbrev pub invariant-loop-layer : goal.invariant-loop-layer
invariant-loop-layer l = l.list ≡ map (layer_spot l.name) (range_with_len 0 l.layer)
