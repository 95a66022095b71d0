use Rattle.std.proofs.Common.{◌≡◌, take}
use Rattle.flight.specs.Internal.Left.{nothing_left}
use Rattle.flight.proofs.holders.nothing_left.Given as goal

abbrev pub invariant-loop-name : goal.invariant-loop-name
invariant-loop-name l = l.left ≡ nothing_left (take l._name-index l.persist)
