use Rattle.std.proofs.Common.{◌≡◌, take}
use Rattle.device.proofs.work.all_bytes.Given as goal

abbrev pub invariant-loop-contents : goal.invariant-loop-contents
invariant-loop-contents l = l.bytes ≡ take l.contents-index l.loaded
