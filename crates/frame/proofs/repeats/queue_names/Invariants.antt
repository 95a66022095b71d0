use Rattle.std.proofs.Common.{◌≡◌, take, map}
use Rattle.frame.proofs.repeats.queue_names.Given as goal

abbrev pub invariant-loop-queue : goal.invariant-loop-queue
invariant-loop-queue l = l.names ≡ map (λ x. x.name) (take l.queue-index l.frame.queues)
