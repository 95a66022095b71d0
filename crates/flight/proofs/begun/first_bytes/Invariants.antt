use Rattle.std.proofs.Common.{◌≡◌, take}
use Rattle.flight.specs.Alone.{first_bytes}
use Rattle.flight.proofs.begun.first_bytes.Given as goal

abbrev pub invariant-loop-name : goal.invariant-loop-name
invariant-loop-name l = l.persisted ≡ first_bytes l.frames (take l.name-index l.persist)
