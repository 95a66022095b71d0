use Rattle.std.proofs.Common.{◌≡◌}
use Rattle.std.specs.List.{filter, range_with_len}
use Rattle.compile_groups.specs.Internal.Buckets.{has_place}
use Rattle.compile_groups.proofs.placed.placed.Given as goal

abbrev pub invariant-loop-unit : goal.invariant-loop-unit
invariant-loop-unit l = l.placed ≡ filter (has_place l.imports l.by_unit) (range_with_len 0 l.unit)
