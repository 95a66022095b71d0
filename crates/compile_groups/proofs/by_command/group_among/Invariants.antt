use Rattle.std.proofs.Common.{◌≡◌, drop}
use Rattle.compile_groups.specs.Internal.Buckets.{group_among}
use Rattle.compile_groups.proofs.by_command.group_among.Given as goal

abbrev pub invariant-loop-at : goal.invariant-loop-at
invariant-loop-at l = group_among l.none (drop l.at-index l.uses) l.unit ≡ group_among l.none l.uses l.unit
