use Rattle.frame.proofs.Spans.{write_on}
use Rattle.frame.proofs.numbers.add_writes.Goals as goal

pub loop-unit-preserved : goal.loop-unit-preserved
loop-unit-preserved c = write_on c.args.stored.fresh c.loop-unit.writes c.push.new.self _ c.loop-unit.unit c.args.stored.units.end c.loop-unit-test.true c.in_ok-push.ensures.ok c.loop-unit.invariant
