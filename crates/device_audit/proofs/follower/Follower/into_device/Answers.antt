use Rattle.std.proofs.Common.{◌∙◌, sym, subst}
use Rattle.device_audit.proofs.follower.Follower.into_device.Goals as goal
use Rattle.device_model.specs.Devices.{Device, IsComplete}

pub returns-clause-same : goal.returns-clause-same
returns-clause-same c all = c.end_all.ensures.same (subst (λ (d : Device). IsComplete d) (sym c.self.view_is) all) ∙ c.self.view_is
