use Rattle.device_workers.proofs.Stepping.{all_stepped}
use Rattle.device_workers.proofs.step.take_step.Goals as goal

pub returns-in-Some-clause-ok : goal.returns-in-Some-clause-ok
returns-in-Some-clause-ok c = all_stepped c.args.device.now c.go.new.device c.args.own_queue c.in-Some.node c.in-Some.ensures.some c.go.result c.go.ensures.ok
