use Rattle.std.proofs.Common.{◌≡◌, ◌++◌, map, drop}
use Rattle.compile_queues.specs.Internal.Work.{queue_by}
use Rattle.compile_queues.proofs.owners.command_queues.Given as goal

abbrev pub invariant-loop-owner : goal.invariant-loop-owner
invariant-loop-owner l = l.list ++ map (queue_by l.queues) (drop l.owner-index l.owners) ≡ map (queue_by l.queues) l.owners
