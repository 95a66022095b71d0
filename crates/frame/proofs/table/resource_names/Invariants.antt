use Rattle.std.proofs.Common.{◌≡◌, take, map}
use Rattle.frame.proofs.table.resource_names.Given as goal

abbrev pub invariant-loop-resource : goal.invariant-loop-resource
invariant-loop-resource l = l.names ≡ map (λ x. x.name) (take l.resource-index l.frame.resources)
