use Rattle.std.proofs.Common.{◌≡◌, ◌++◌, take, length, codes}
use Rattle.std.specs.Fmt.{decimal}
use Rattle.std.specs.List.{flat_map}
use Rattle.report.specs.Traces.{event_line}
use Rattle.report.proofs.trace.trace_text.Given as goal

abbrev pub invariant-loop-event : goal.invariant-loop-event
invariant-loop-event l = l.text ≡ codes "events " ++ decimal (length l.history) ++ codes "\n" ++ flat_map event_line (take l.event-index l.history)
