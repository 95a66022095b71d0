use Rattle.std.proofs.Common.{◌≡◌, take}
use Rattle.frame.proofs.frame.copy_resources.Given as goal

abbrev pub invariant-loop-resource : goal.invariant-loop-resource
invariant-loop-resource l = l.copies ≡ take l.resource-index l.resources
