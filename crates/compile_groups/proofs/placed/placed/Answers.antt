use Rattle.compile_groups.proofs.Lists.{filter_range_more}
use Rattle.compile_groups.proofs.placed.placed.Goals as goal
use Rattle.compile_groups.specs.Internal.Buckets.{has_place}

pub loop-unit-preserved : goal.loop-unit-preserved
loop-unit-preserved c = filter_range_more (has_place c.args.imports.now c.args.by_unit.now) c.loop-unit.unit c.loop-unit.placed c.push_placed.new.list c.loop-unit.invariant c.in_ok-push_placed.ensures
