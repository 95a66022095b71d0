use Rattle.std.proofs.Common.{◌≡◌, ◌++◌, drop}
use Rattle.compile_groups.specs.Uses.{uses_of}
use Rattle.compile_groups.proofs.uses.uses_of.Given as goal

abbrev pub invariant-loop-c : goal.invariant-loop-c
invariant-loop-c l = l.list ++ uses_of l.shapes l.units l.c (drop l.c l.commands) ≡ uses_of l.shapes l.units 0 l.commands
