use Rattle.std.proofs.Common.{subst, arith}
use Rattle.base_first.specs.Internal.Walk.{Walked, IsNewest}
use Rattle.base_first.proofs.walk.walk.Goals as goal

pub loop-i-init : goal.loop-i-init
loop-i-init c = record {
  walked = subst (λ k. Walked c.args.points.now c.args.size.queues c.args.size.channels c.args.numbers.now c.args.groups.now k) (omega arith) c.requires.walked;
  newest = subst (λ k. IsNewest c.args.points.now c.args.size.queues c.args.groups.now k) (omega arith) c.requires.newest;
}

pub step-requires-clause-walked : goal.step-requires-clause-walked
step-requires-clause-walked c = subst (λ k. Walked c.args.points.now c.args.size.queues c.args.size.channels c.loop-i.numbers c.loop-i.groups k) (omega arith) c.loop-i.invariant.walked

pub step-requires-clause-newest : goal.step-requires-clause-newest
step-requires-clause-newest c = subst (λ k. IsNewest c.args.points.now c.args.size.queues c.loop-i.groups k) (omega arith) c.loop-i.invariant.newest

pub loop-i-preserved : goal.loop-i-preserved
loop-i-preserved c = record {
  walked = subst (λ k. Walked c.args.points.now c.args.size.queues c.args.size.channels c.step.new.numbers c.step.new.groups k) (omega arith) c.step.ensures.walked;
  newest = subst (λ k. IsNewest c.args.points.now c.args.size.queues c.step.new.groups k) (omega arith) c.step.ensures.newest;
}

pub returns : goal.returns
returns c = record { walked = subst (λ k. Walked c.args.points.now c.args.size.queues c.args.size.channels c.loop-i.numbers c.loop-i.groups k) (omega arith) c.loop-i.invariant.walked }
