use Rattle.std.proofs.Common.{take}
use Rattle.device_audit.proofs.undone.marked.Given as goal
use Rattle.device_audit.specs.Internal.Following.{AreMarked}

abbrev pub invariant-loop-event : goal.invariant-loop-event
invariant-loop-event l = AreMarked l.done.items (take l.event-index l.events) l.count
