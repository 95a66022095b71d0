use Rattle.std.proofs.Common.{◌≡◌, take}
use Rattle.program.proofs.program.copy_queues.Given as goal

abbrev pub invariant-loop-queue : goal.invariant-loop-queue
invariant-loop-queue l = l.copies ≡ take l.queue-index l.queues
