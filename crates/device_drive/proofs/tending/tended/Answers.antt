use Rattle.std.proofs.Common.{◌≡◌, sym, ap, ◌∙◌}
use Rattle.device_drive.proofs.tending.tended.Goals as goal
use Rattle.device_drive.specs.Internal.Keepers.{to_come}
use Rattle.device_drive.specs.Tended.{tended_moves}
use Rattle.device_model.specs.Histories.{moves_in}
use Rattle.program.specs.declared.program.Program.{Program}

pub returns : goal.returns
returns c =
    let same : c.program.result.now ≡ c.args.program.now.program = c.program.ensures.program ∙ c.deref.ensures ∙ c.shaped.ensures.program in
    let history : moves_in c.history.result.now ≡ moves_in c.args.device.now.history = ap moves_in c.history.ensures.history in
    let moves : to_come c.in_ok-keeper.keeper 256 ≡ tended_moves c.args.program.now.program c.args.tend 256 = c.in_ok-keeper.ensures.moves 256 ∙ ap (λ (p : Program). tended_moves p c.args.tend 256) same in
    ((λ e. sym history ∙ c.follow.ensures.0 e ∙ moves), (λ e. c.follow.ensures.1 (history ∙ e ∙ sym moves)))
