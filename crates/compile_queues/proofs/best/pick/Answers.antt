use Rattle.std.proofs.Common.{◌≤◌, arith, subst}
use Rattle.compile_queues.proofs.Trying.{first_best, picked}
use Rattle.compile_queues.proofs.best.pick.Goals as goal
use Rattle.frame.specs.Numbered.{numbered}

pub loop-queue-init : goal.loop-queue-init
loop-queue-init c = record { best = first_best (numbered c.args.frame.now) c.args.queues.now c.args.pass c.args.cost c.requires.runs c.requires.cost; less = omega arith }

pub returns-clause-pick : goal.returns-clause-pick
returns-clause-pick c = picked (numbered c.args.frame.now) c.args.queues.now c.args.pass c.loop-queue.queue c.loop-queue.best.queue c.loop-queue.best.cost (subst (λ n. n ≤ c.loop-queue.queue) c.queue_count-queue-end.ensures c.loop-queue-test.false) c.loop-queue.invariant.best
