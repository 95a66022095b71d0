use Rattle.std.proofs.Common.{subst}
use Rattle.device.proofs.device.Device.history.Goals as goal
use Rattle.device_model.specs.Coming.{AllCame}

pub returns-clause-came : goal.returns-clause-came
returns-clause-came c = subst AllCame c.self.view_is c.self.invariant.came
