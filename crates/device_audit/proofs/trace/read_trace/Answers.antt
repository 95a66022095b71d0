use Rattle.device_audit.proofs.Counted.{few_answered}
use Rattle.device_audit.proofs.trace.read_trace.Goals as goal

pub returns-clause-few : goal.returns-clause-few
returns-clause-few c = few_answered c.args.text.now c.events_of.result c.events_of.ensures
