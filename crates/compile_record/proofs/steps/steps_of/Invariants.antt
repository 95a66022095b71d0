use Rattle.std.proofs.Common.{◌≡◌, map}
use Rattle.compile_record.proofs.steps.steps_of.Given as goal
use Rattle.compile_record.specs.Internal.Tables.{with_step}

abbrev pub invariant-loop-one : goal.invariant-loop-one
invariant-loop-one l = l.steps ≡ map (with_step l.tables) l.yielded
