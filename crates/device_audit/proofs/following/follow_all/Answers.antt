use Rattle.device_audit.proofs.Coming.{enabled_on, placed, strays}
use Rattle.device_audit.proofs.following.follow_all.Goals as goal

pub returns-then-not-branch-clause-stray : goal.returns-then-not-branch-clause-stray
returns-then-not-branch-clause-stray g c =
    strays c.args.follower.now.program c.args.events.now c.loop-at.at c.loop-at-test.true _ c.loop-at.follower c.follow.new.self c.in_ok-follow.field-0 c.loop-at.invariant.place c.in_ok-follow.ensures c.loop-at.invariant.enabled c.if-not-branch.true

pub loop-at-preserved : goal.loop-at-preserved
loop-at-preserved g c = record {
  place = placed c.args.follower.now.program c.args.events.now c.loop-at.at c.loop-at-test.true _ c.loop-at.follower c.follow.new.self c.in_ok-follow.field-0 c.loop-at.invariant.place c.in_ok-follow.ensures c.loop-at.invariant.enabled c.if-not-branch.false;
  enabled = enabled_on c.args.follower.now.program c.args.events.now c.loop-at.at c.loop-at-test.true _ c.loop-at.follower c.follow.new.self c.in_ok-follow.field-0 c.loop-at.invariant.place c.in_ok-follow.ensures c.loop-at.invariant.enabled c.if-not-branch.false;
}
