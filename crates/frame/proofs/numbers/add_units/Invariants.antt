use Rattle.std.proofs.Common.{◌≡◌, ◌++◌, ◌-◌}
use Rattle.std.specs.List.{range_with_len}
use Rattle.frame.specs.Units.{units_in}
use Rattle.frame.proofs.numbers.add_units.Given as goal

abbrev pub invariant-loop-unit : goal.invariant-loop-unit
invariant-loop-unit l = l.units ++ range_with_len l.unit (l.fn.span.end - l.unit) ≡ l.fn.units ++ units_in l.fn.span
