use Rattle.std.proofs.Common.{[], ◌∷◌, sym, subst}
use Rattle.device_drive.proofs.Calming.{still_may, round_sync}
use Rattle.device_drive.proofs.Driving.{does_one}
use Rattle.base.specs.declared.event.Event.TheVariants.{Sync}
use Rattle.device_drive.specs.Internal.Keepers.{Does}
use Rattle.device_drive.proofs.round.run_sync.Goals as goal
use Rattle.check_order.specs.Edges.{is_sync}
use Rattle.device_model.specs.Devices.{Device}
use Rattle.device_model.specs.Rounds.{Round}

pub sync-requires-clause-ready : goal.sync-requires-clause-ready
sync-requires-clause-ready c = (still_may c.args.device.now c.tend.new.device c.tend.ensures.calm is_sync c.args.node c.requires.may).ready

pub returns-clause-round : goal.returns-clause-round
returns-clause-round c =
    let a = c.args.device.now in
    subst (λ (x : Device). Round a x) (sym c.sync.ensures) (round_sync a c.tend.new.device c.args.node c.requires.idle c.tend.ensures.calm c.requires.may)

pub returns-clause-does : goal.returns-clause-does
returns-clause-does c =
    let event = Sync c.args.node in
    subst (λ (x : Device). Does (event ∷ []) c.args.device.now x c.args.keeper.now c.tend.new.self) (sym c.sync.ensures) (does_one c.args.device.now c.tend.new.device c.args.keeper.now c.tend.new.self event c.tend.ensures.tends)
