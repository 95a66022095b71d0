use Rattle.std.proofs.Common.{◌≡◌, ◌++◌, map, take}
use Rattle.std.specs.List.{flat_map}
use Rattle.compile_record.proofs.block.need_groups.Given as goal
use Rattle.compile_record.specs.Script.{use_needs}
use Rattle.compile_record.specs.declared.mark.Marked.TheVariants.{Needs}

abbrev pub ghost-need_group : goal.ghost-need_group
ghost-need_group g a = g.heap

abbrev pub invariant-loop-g : goal.invariant-loop-g
invariant-loop-g g l = l.script ≡ l.fn.script ++ map (Needs l.queue) (flat_map (use_needs l.groups g.heap l.queue l.command) (take l.g-index l.used))
