use Rattle.std.proofs.Common.{◌≡◌, ◌++◌, take, drop}
use Rattle.base.specs.Operands.{operands_of}
use Rattle.base.specs.Touches.{touches_of}
use Rattle.compile_groups.specs.Uses.{uses_from, command_uses}
use Rattle.compile_groups.proofs.uses.push_command.Given as goal

abbrev pub invariant-loop-k : goal.invariant-loop-k
invariant-loop-k l = l.list ++ uses_from l.shapes l.units l.c l.command.queue l.k (take l.k (operands_of l.command.op)) (drop l.k (touches_of l.shapes l.command.op)) ≡ l.fn.list ++ command_uses l.shapes l.units l.c l.command
