use Rattle.device_audit.proofs.Reading.{line_missing, line_read}
use Rattle.device_audit.proofs.trace.events_from.Goals as goal
use Rattle.device_audit.specs.Trace.{events_from}

pub returns-in-None : goal.returns-in-None
returns-in-None c = line_missing c.args.count c.loop-k.k c.loop-k.events c.loop-k.rest.now (events_from c.args.count 1 c.args.text.now) c.loop-k-test.true c.loop-k.invariant c.in-None.ensures.none

pub loop-k-preserved : goal.loop-k-preserved
loop-k-preserved c = line_read c.args.count c.loop-k.k c.loop-k.events c.loop-k.rest.now (events_from c.args.count 1 c.args.text.now) c.loop-k-test.true c.loop-k.invariant c.in-Some.line.event c.in-Some.line.rest.now c.push.new.self c.in-Some.ensures.some c.in_ok-push-in-Some.ensures.ok
