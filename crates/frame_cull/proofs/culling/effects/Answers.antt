use Rattle.std.proofs.Common.{subst, ◌<◌}
use Rattle.frame.specs.Numbered.{numbered}
use Rattle.frame_cull.proofs.Reach.{effects_on}
use Rattle.frame_cull.proofs.culling.effects.Goals as goal

pub loop-pass-preserved : goal.loop-pass-preserved
loop-pass-preserved c = effects_on (numbered c.args.frame.now).passes c.loop-pass.roots c.push.new.self c.loop-pass.pass c.has_side_effect.result (subst (λ n. c.loop-pass.pass < n) c.pass_count-pass-end.ensures.count c.loop-pass-test.true) c.loop-pass.invariant c.has_side_effect.ensures c.in_ok-push.ensures.ok
