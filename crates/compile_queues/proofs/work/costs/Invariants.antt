use Rattle.std.proofs.Common.{◌≡◌, ◌≤◌, ◌++◌, map, drop}
use Rattle.std.specs.List.{All}
use Rattle.compile_queues.specs.Internal.Sweep.{most_cost}
use Rattle.compile_queues.specs.Cost.{command_cost}
use Rattle.compile_queues.proofs.work.costs.Given as goal

abbrev pub invariant-loop-command : goal.invariant-loop-command
invariant-loop-command l = record {
  costs : l.list ++ map (command_cost l.groups) (drop l.command-index l.commands) ≡ map (command_cost l.groups) l.commands;
  small : All (λ cost. cost ≤ most_cost) l.list;
}
