use Rattle.std.proofs.Common.{◌≡◌, ◌++◌, ◌-◌, map}
use Rattle.std.specs.List.{range_with_len}
use Rattle.frame.specs.Numbered.{write_each, unit_writes}
use Rattle.frame.proofs.numbers.add_writes.Given as goal

abbrev pub invariant-loop-unit : goal.invariant-loop-unit
invariant-loop-unit l = l.writes ++ map (write_each l.stored.fresh) (range_with_len l.unit (l.stored.units.end - l.unit)) ≡ l.fn.writes ++ unit_writes l.stored
