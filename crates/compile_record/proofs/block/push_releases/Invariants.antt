use Rattle.std.proofs.Common.{◌≡◌, ◌++◌, take}
use Rattle.std.specs.List.{flat_map}
use Rattle.compile_record.proofs.block.push_releases.Given as goal
use Rattle.compile_record.specs.Script.{use_releases}

abbrev pub ghost-push_release_of : goal.ghost-push_release_of
ghost-push_release_of g a = g.heap

abbrev pub invariant-loop-g : goal.invariant-loop-g
invariant-loop-g g l = l.script ≡ l.fn.script ++ flat_map (use_releases l.groups g.heap l.queue l.command) (take l.g-index l.used)
