-- A trace on its way: the events that were read, before those of the rest.
use Rattle.std.specs.Prelude.{List, ◌++◌, Result, Ok, Err}
use Rattle.base.specs.declared.event.Event.{Event}
use Rattle.device_audit.specs.declared.trace.TraceError.{TraceError}

-- events before those that were read
abbrev pub after_events : List Event → Result (List Event) TraceError → Result (List Event) TraceError
after_events events (Ok more) = Ok (events ++ more)
after_events events (Err end) = Err end
