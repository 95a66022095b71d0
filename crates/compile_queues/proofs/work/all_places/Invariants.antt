use Rattle.std.proofs.Common.{◌≡◌, map}
use Rattle.std.specs.List.{range_with_len}
use Rattle.compile_queues.specs.Internal.Work.{places}
use Rattle.compile_queues.proofs.work.all_places.Given as goal

abbrev pub invariant-loop-command : goal.invariant-loop-command
invariant-loop-command l = l.list ≡ map (places l.uses) (range_with_len 0 l.command)
