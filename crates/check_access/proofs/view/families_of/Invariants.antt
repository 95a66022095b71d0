use Rattle.std.proofs.Common.{◌≡◌, map, take}
use Rattle.check_access.proofs.view.families_of.Given as goal

abbrev pub invariant-loop-queue : goal.invariant-loop-queue
invariant-loop-queue l = l.families ≡ map (λ queue. queue.family) (take l.queue-index l.queues)
