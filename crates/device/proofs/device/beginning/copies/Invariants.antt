use Rattle.std.proofs.Common.{◌≡◌, take}
use Rattle.device.proofs.device.beginning.copies.Given as goal

abbrev pub invariant-loop-contents : goal.invariant-loop-contents
invariant-loop-contents l = l.copies ≡ take l.contents-index l.loaded
