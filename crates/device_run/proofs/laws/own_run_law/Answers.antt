use Rattle.device_run.proofs.OwnRun.{own_run}
use Rattle.device_run.proofs.laws.own_run_law.Goals as goal

pub returns : goal.returns
returns c d came complete = own_run d came complete
