use Rattle.std.proofs.Common.{◌≡◌, false, rules, true}
use Rattle.compile_queues.proofs.Trying.{kept_best, new_best, not_run, present_again}
use Rattle.compile_queues.proofs.best.better.Goals as goal
use Rattle.compile_queues.proofs.best.better.Goals.{then-queue-queues-via-then-queue-queues, then-queue-queues-via-else-queue-queues+then-not-serves}
use Rattle.frame.specs.Numbered.{numbered}

pub returns-then-queue-queues-clause-best : goal.returns-then-queue-queues-clause-best
returns-then-queue-queues-clause-best c = elim c.then-queue-queues.branch [
  | then-queue-queues-via-then-queue-queues w ↦ present_again (numbered c.args.frame.now) c.args.queues.now c.args.pass c.args.queue c.args.best.queue c.args.best.cost w.if-queue-queues.true c.requires.best
  | then-queue-queues-via-else-queue-queues+then-not-serves w ↦ (let fails : w.serves.result ≡ false = search rules in not_run (numbered c.args.frame.now) c.args.queues.now c.args.pass c.args.queue c.args.best.queue c.args.best.cost w.serves.result w.serves.ensures fails c.requires.best)
]

pub returns-then-cost-best-clause-best : goal.returns-then-cost-best-clause-best
returns-then-cost-best-clause-best c =
    let holds : c.serves.result ≡ true = search rules in
    new_best (numbered c.args.frame.now) c.args.queues.now c.args.pass c.args.queue c.args.best.queue c.args.best.cost c.in_ok-cost.cost c.serves.result c.if-queue-queues.false c.serves.ensures holds c.in_ok-cost.ensures c.if-cost-best.true c.requires.best

pub returns-else-cost-best-clause-best : goal.returns-else-cost-best-clause-best
returns-else-cost-best-clause-best c = kept_best (numbered c.args.frame.now) c.args.queues.now c.args.pass c.args.queue c.args.best.queue c.args.best.cost c.in_ok-cost.cost c.in_ok-cost.ensures c.if-cost-best.false c.requires.best
