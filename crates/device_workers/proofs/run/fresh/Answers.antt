use Rattle.std.proofs.Common.{◌∙◌, ℕ, ap}
use Rattle.device_model.specs.Devices.{fresh}
use Rattle.device_workers.proofs.Paying.{room_is}
use Rattle.device_workers.proofs.run.fresh.Goals as goal

pub returns : goal.returns
returns g c = c.lend_threads.ensures ∙ c.in_ok-device.ensures.fresh ∙ ap (λ (moves : ℕ). fresh c.args.program.now.program 0 moves) (room_is c.args.tend c.moves_of.result c.moves_of.ensures.seeded c.moves_of.ensures.none)
