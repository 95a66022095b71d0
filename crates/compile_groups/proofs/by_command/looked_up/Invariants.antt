use Rattle.std.proofs.Common.{◌≡◌, ◌++◌, map, drop}
use Rattle.compile_groups.specs.Internal.Buckets.{looked_up}
use Rattle.compile_groups.proofs.by_command.looked_up.Given as goal

abbrev pub invariant-loop-one : goal.invariant-loop-one
invariant-loop-one l = l.list ++ map (looked_up l.none l.by_command) (drop l.one-index l.uses) ≡ map (looked_up l.none l.by_command) l.uses
