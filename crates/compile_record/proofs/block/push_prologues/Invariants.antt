use Rattle.std.proofs.Common.{◌≡◌, ◌++◌, take}
use Rattle.std.specs.List.{flat_map}
use Rattle.compile_record.proofs.block.push_prologues.Given as goal
use Rattle.compile_record.specs.Script.{use_prologues}

abbrev pub ghost-push_prologue_of : goal.ghost-push_prologue_of
ghost-push_prologue_of g a = g.heap

abbrev pub invariant-loop-g : goal.invariant-loop-g
invariant-loop-g g l = l.script ≡ l.fn.script ++ flat_map (use_prologues l.groups g.heap l.command) (take l.g-index l.used)
