use Rattle.std.proofs.Common.{◌≡◌, ◌++◌, drop, length}
use Rattle.compile_timeline.specs.Batches.{queues_from}
use Rattle.compile_timeline.proofs.queues.batches.Given as goal

abbrev pub invariant-loop-queue : goal.invariant-loop-queue
invariant-loop-queue l = l.queues ++ queues_from l.script (length l.families) l.queue (drop l.queue l.families) ≡ queues_from l.script (length l.families) 0 l.families
