use Rattle.std.proofs.Common.{sym, subst}
use Rattle.device_model.specs.Devices.{Device}
use Rattle.device_run.proofs.RunLemmas.{none_begun, driven}
use Rattle.device_run.specs.Runs.{HasRun}
use Rattle.device_run.proofs.programs.driven.Goals as goal

pub drive-requires-clause-idle : goal.drive-requires-clause-idle
drive-requires-clause-idle g c κs lives n =
    none_begun c.in_ok-device.device c.args.program.now.program c.moves_of.result c.in_ok-device.ensures.fresh c.event_laws.ensures.opens n

pub returns : goal.returns
returns g c =
    subst (λ (d : Device). HasRun c.args.program.now.program c.args.tend d) (sym c.new-2.ensures)
    (driven c.args.program.now.program c.args.tend c.moves_of.result c.in_ok-device.device c.drive.new.device c.run_laws.ensures.runs c.run_laws.ensures.every c.in_ok-device.ensures.fresh c.moves_of.ensures.seeded c.history-came.ensures.came c.in_ok-drive.ensures.complete c.in_ok-drive.ensures.tended)
