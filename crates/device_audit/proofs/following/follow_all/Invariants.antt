use Rattle.std.proofs.Common.{◌≡◌}
use Rattle.device_audit.proofs.following.follow_all.Given as goal
use Rattle.device_audit.specs.Internal.Following.{at_place}
use Rattle.device_model.specs.Coming.{AreEnabled}

abbrev pub invariant-loop-at : goal.invariant-loop-at
invariant-loop-at g l = record {
  place : l.follower ≡ at_place l.fn.follower.program l.events l.at;
  enabled : AreEnabled l.fn.follower.program 0 l.events l.at;
}
