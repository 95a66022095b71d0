use Rattle.std.proofs.Common.{◌≡◌, ◌++◌, map, drop}
use Rattle.compile_queues.specs.Renamed.{queue_name}
use Rattle.compile_queues.proofs.queues.names_of.Given as goal

abbrev pub invariant-loop-queue : goal.invariant-loop-queue
invariant-loop-queue l = l.names ++ map (queue_name l.frame) (drop l.queue-index l.queues) ≡ map (queue_name l.frame) l.queues
