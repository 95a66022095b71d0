use Rattle.std.proofs.Common.{◌≡◌, take}
use Rattle.std.specs.List.{flat_map}
use Rattle.frame.specs.Units.{units_in}
use Rattle.frame.proofs.numbers.all_units.Given as goal

abbrev pub invariant-loop-span : goal.invariant-loop-span
invariant-loop-span l = l.units ≡ flat_map units_in (take l.span-index l.spans)
