use Rattle.std.proofs.Common.{◌≡◌, take, map}
use Rattle.frame.proofs.repeats.spot_names.Given as goal

abbrev pub invariant-loop-spot : goal.invariant-loop-spot
invariant-loop-spot l = l.names ≡ map (λ x. x.name) (take l.spot-index l.spots)
