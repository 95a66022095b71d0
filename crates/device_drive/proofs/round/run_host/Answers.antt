use Rattle.std.proofs.Common.{◌≡◌, ℕ, true, [], ◌∷◌, refl, sym, ap, ◌∙◌, subst}
use Rattle.base.specs.declared.event.Event.TheVariants.{Host}
use Rattle.device_drive.proofs.Advancing.{with_node}
use Rattle.device_drive.proofs.Calming.{still_may, round_host}
use Rattle.device_drive.proofs.Driving.{does_one}
use Rattle.device_drive.proofs.round.run_host.Goals as goal
use Rattle.device_drive.specs.Internal.Keepers.{Advanced, Does}
use Rattle.check_order.specs.Edges.{is_host}
use Rattle.device_model.specs.Devices.{Device, did, is_ready}
use Rattle.device_model.specs.Rounds.{Round}

pub readback_of-readback-requires : goal.readback_of-readback-requires
readback_of-readback-requires c = still_may c.args.device.now c.tend.new.device c.tend.ensures.calm is_host c.args.node c.requires.may

pub host-requires-clause-ready : goal.host-requires-clause-ready
host-requires-clause-ready c =
    let b = c.tend.new.device in
    subst (λ (k : ℕ). is_ready b k ≡ true) (sym c.readback_of-readback.ensures.read) (still_may c.args.device.now b c.tend.ensures.calm is_host c.args.node c.requires.may).ready

pub returns-clause-advanced : goal.returns-clause-advanced
returns-clause-advanced c =
    let b = c.tend.new.device in
    subst (λ (x : Device). Advanced c.args.device.now x c.args.keeper.now c.tend.new.self) (sym (c.host.ensures ∙ ap (λ (k : ℕ). did b (Host k)) c.readback_of-readback.ensures.read)) (with_node c.args.device.now b c.args.keeper.now c.tend.new.self (Host c.args.node) refl c.tend.ensures.advanced)

pub returns-clause-round : goal.returns-clause-round
returns-clause-round c =
    let b = c.tend.new.device in
    subst (λ (x : Device). Round c.args.device.now x) (sym (c.host.ensures ∙ ap (λ (k : ℕ). did b (Host k)) c.readback_of-readback.ensures.read)) (round_host c.args.device.now b c.args.node c.requires.idle c.tend.ensures.calm c.requires.may)

pub returns-clause-does : goal.returns-clause-does
returns-clause-does c =
    let b = c.tend.new.device in
    let event = Host c.args.node in
    subst (λ (x : Device). Does (event ∷ []) c.args.device.now x c.args.keeper.now c.tend.new.self) (sym (c.host.ensures ∙ ap (λ (k : ℕ). did b (Host k)) c.readback_of-readback.ensures.read)) (does_one c.args.device.now b c.args.keeper.now c.tend.new.self event c.tend.ensures.tends)
