use Rattle.std.proofs.Common.{◌≡◌}
use Rattle.frame.specs.Numbered.{numbered}
use Rattle.frame_cull.specs.Versions.{numbers_until}
use Rattle.frame_cull.proofs.versions.versions_of.Given as goal

abbrev pub invariant-loop-pass : goal.invariant-loop-pass
invariant-loop-pass l = l.versions ≡ numbers_until (numbered l.frame) l.pass
