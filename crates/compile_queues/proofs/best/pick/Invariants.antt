use Rattle.std.proofs.Common.{◌≤◌}
use Rattle.compile_queues.specs.Internal.Best.{IsBestFor}
use Rattle.frame.specs.Numbered.{numbered}
use Rattle.compile_queues.proofs.best.pick.Given as goal

abbrev pub invariant-loop-queue : goal.invariant-loop-queue
invariant-loop-queue l = record {
  best : IsBestFor (numbered l.frame) l.queues l.pass l.queue l.best.queue l.best.cost;
  less : l.best.cost ≤ l.cost;
}
