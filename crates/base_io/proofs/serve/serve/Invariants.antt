use Rattle.std.proofs.Common.{take}
use Rattle.base_io.specs.Taps.{Hears}
use Rattle.base_io.proofs.serve.serve.Given as goal

abbrev pub invariant-loop-event : goal.invariant-loop-event
invariant-loop-event g l =
    Hears ((goal.Tap-dyn g l.initial.tap.now).heard l.initial.tap.now.1) ((goal.Tap-dyn g l.tap.now).heard l.tap.now.1) (take l.event-index l.events)
