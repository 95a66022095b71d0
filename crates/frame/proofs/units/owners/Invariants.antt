use Rattle.std.proofs.Common.{◌≡◌, ◌++◌, drop}
use Rattle.frame.specs.Units.{owners}
use Rattle.frame.proofs.units.owners.Given as goal

abbrev pub invariant-loop-i : goal.invariant-loop-i
invariant-loop-i l = l.list ++ owners l.i (drop l.i l.resources) ≡ owners 0 l.resources
