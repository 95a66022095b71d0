use Rattle.frame.proofs.Spans.{unit_on}
use Rattle.frame.proofs.numbers.add_units.Goals as goal

pub loop-unit-preserved : goal.loop-unit-preserved
loop-unit-preserved c = unit_on c.loop-unit.units c.push.new.self _ c.loop-unit.unit c.args.span.end c.loop-unit-test.true c.in_ok-push.ensures.ok c.loop-unit.invariant
