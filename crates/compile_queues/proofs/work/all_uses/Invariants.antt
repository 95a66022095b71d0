use Rattle.std.proofs.Common.{◌≡◌, ◌++◌, drop}
use Rattle.compile_groups.specs.Laws.{flat}
use Rattle.compile_queues.proofs.work.all_uses.Given as goal

abbrev pub invariant-loop-g : goal.invariant-loop-g
invariant-loop-g l = l.uses ++ flat (drop l.g l.groups.groups) ≡ flat l.groups.groups
