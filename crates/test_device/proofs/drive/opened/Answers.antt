use Rattle.std.proofs.Common.{◌≡◌, sym, subst}
use Rattle.std.proofs.lemmas.Result.{IfOk-weaker}
use Rattle.device_drive.proofs.Calming.{fresh_idle}
use Rattle.test_device.proofs.drive.opened.Goals as goal
use Rattle.device_model.specs.Devices.{Device, fresh, NoneBegun}

pub returns-clause-idle : goal.returns-clause-idle
returns-clause-idle c =
    let program = c.args.program.now.program in
    let moves = c.args.moves in
    IfOk-weaker c.new.result (λ (d : Device). d ≡ fresh program 238 moves) NoneBegun (λ d is. subst NoneBegun (sym is) (fresh_idle program 238 moves)) c.new.ensures.fresh
