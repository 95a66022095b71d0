use Rattle.std.proofs.Common.{◌≡◌, ◌++◌, drop}
use Rattle.std.specs.List.{flat_map}
use Rattle.compile_groups.specs.Needs.{uses_at}
use Rattle.compile_record.proofs.used.groups_used.Given as goal
use Rattle.compile_record.specs.Internal.Wants.{group_by}

abbrev pub invariant-loop-one : goal.invariant-loop-one
invariant-loop-one l = l.list ++ flat_map (group_by l.command) (drop l.one-index (uses_at l.groups)) ≡ flat_map (group_by l.command) (uses_at l.groups)
