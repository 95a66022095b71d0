use Rattle.std.proofs.Common.{◌≡◌, take, replicate, is_some}
use Rattle.std.specs.List.{flat_map}
use Rattle.frame.proofs.units.resource_imports.Given as goal

abbrev pub invariant-loop-resource : goal.invariant-loop-resource
invariant-loop-resource l = l.list ≡ flat_map (λ r. replicate r.layers (is_some r.import)) (take l.resource-index l.resources)
