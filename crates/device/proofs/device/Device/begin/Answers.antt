use Rattle.std.proofs.Common.{sym, subst}
use Rattle.device.proofs.device.Device.begin.Goals as goal
use Rattle.device.specs.declared.job.Command.{Command}
use Rattle.device_model.specs.Devices.{Device, LoadsApart}

pub returns-clause-apart : goal.returns-clause-apart
returns-clause-apart c =
    let apart = subst (λ (job : Command). LoadsApart c.begin_alone.new.self c.args.node job.loaded) (sym c.helped.ensures.job) c.in_ok-job.ensures.apart in
    subst (λ (d : Device). LoadsApart d c.args.node c.helped.result.loaded) (sym c.helped.ensures.same) apart
