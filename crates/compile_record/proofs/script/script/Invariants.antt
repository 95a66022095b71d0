use Rattle.std.proofs.Common.{◌≡◌, ◌++◌, drop}
use Rattle.compile_record.proofs.script.script.Given as goal
use Rattle.compile_record.specs.Script.{script, blocks}

abbrev pub ghost-push_block : goal.ghost-push_block
ghost-push_block g a = g.heap

abbrev pub invariant-loop-c : goal.invariant-loop-c
invariant-loop-c g l = l.list ++ blocks l.groups g.heap l.c (drop l.c l.groups.commands) ≡ script l.groups g.heap
