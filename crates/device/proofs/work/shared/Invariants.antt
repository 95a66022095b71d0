use Rattle.std.proofs.Common.{◌≡◌, take}
use Rattle.device.proofs.work.shared.Given as goal

abbrev pub invariant-loop-one : goal.invariant-loop-one
invariant-loop-one l = l.copies ≡ take l.one-index l.bytes
