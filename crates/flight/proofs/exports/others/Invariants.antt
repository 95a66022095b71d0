use Rattle.std.proofs.Common.{◌≡◌, ◌++◌, drop}
use Rattle.flight.specs.Internal.Left.{others_by}
use Rattle.flight.proofs.exports.others.Given as goal

abbrev pub invariant-loop-k : goal.invariant-loop-k
invariant-loop-k l = l.others ++ others_by l.own (drop l.k l.left) ≡ others_by l.own l.left
