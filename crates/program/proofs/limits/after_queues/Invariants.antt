use Rattle.std.proofs.Common.{◌≡◌, ◌+◌, drop}
use Rattle.program.specs.Internal.Counts.{queues_count}
use Rattle.program.proofs.limits.after_queues.Given as goal

abbrev pub invariant-loop-queue : goal.invariant-loop-queue
invariant-loop-queue l = l.left + queues_count l.queues ≡ l.room + queues_count (drop l.queue-index l.queues)
