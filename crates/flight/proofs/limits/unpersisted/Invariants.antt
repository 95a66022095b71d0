use Rattle.std.proofs.Common.{◌≡◌, take}
use Rattle.flight.specs.Refusals.{unpersisted}
use Rattle.flight.proofs.limits.unpersisted.Given as goal

abbrev pub invariant-loop-name : goal.invariant-loop-name
invariant-loop-name l = l.persisted ≡ unpersisted (take l._name-index l.persist)
