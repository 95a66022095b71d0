use Rattle.std.proofs.Common.{◌≡◌, ◌++◌, map, drop}
use Rattle.compile_groups.specs.Commands.{on_queue}
use Rattle.compile_groups.proofs.commands.push_pass.Given as goal

abbrev pub invariant-loop-op : goal.invariant-loop-op
invariant-loop-op l = l.list ++ map (on_queue l.queue) (drop l.op-index l.ops) ≡ l.fn.list ++ map (on_queue l.queue) l.ops
