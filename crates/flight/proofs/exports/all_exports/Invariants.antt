use Rattle.std.proofs.Common.{◌≡◌, ◌++◌, drop}
use Rattle.flight.specs.Internal.WindowParts.{all_exports}
use Rattle.flight.proofs.exports.all_exports.Given as goal

abbrev pub invariant-loop-i : goal.invariant-loop-i
invariant-loop-i l = l.exports ++ all_exports l.i (drop l.i l.frames) ≡ all_exports 0 l.frames
