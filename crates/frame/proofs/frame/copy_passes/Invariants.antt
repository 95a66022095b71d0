use Rattle.std.proofs.Common.{◌≡◌, take}
use Rattle.frame.proofs.frame.copy_passes.Given as goal

abbrev pub invariant-loop-pass : goal.invariant-loop-pass
invariant-loop-pass l = l.copies ≡ take l.pass-index l.passes
