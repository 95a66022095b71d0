use Rattle.std.proofs.Common.{◌≡◌, ◌+◌, ◌-◌}
use Rattle.device_audit.proofs.trace.events_from.Given as goal
use Rattle.device_audit.specs.Internal.Reading.{after_events}
use Rattle.device_audit.specs.Trace.{events_from}

abbrev pub invariant-loop-k : goal.invariant-loop-k
invariant-loop-k l = after_events l.events (events_from (l.count - l.k) (l.k + 1) l.rest) ≡ events_from l.count 1 l.text
