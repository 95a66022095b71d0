use Rattle.std.proofs.Common.{◌≤◌, length}
use Rattle.compile_record.proofs.steps.tables_of.Given as goal
use Rattle.compile_record.specs.Internal.Tables.{Finds}

abbrev pub invariant-loop-step : goal.invariant-loop-step
invariant-loop-step l = record { within : l.step ≤ length l.script; finds : Finds l.script l.step l.tables }

abbrev pub decreases-loop-step : goal.decreases-loop-step
decreases-loop-step l = l.step
