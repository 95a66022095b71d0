use Rattle.std.proofs.Common.{◌≡◌, ap, ◌∙◌}
use Rattle.device_drive.proofs.Advancing.{joined, all_tended}
use Rattle.device_drive.proofs.Driving.{driven}
use Rattle.device_drive.proofs.run.drive.Goals as goal
use Rattle.device_drive.specs.Tended.{tended_moves}
use Rattle.program.specs.declared.program.Program.{Program}

pub returns-clause-tended : goal.returns-clause-tended
returns-clause-tended g c =
    let a = c.args.device.now in
    let k = c.in_ok-keeper.keeper in
    let same : c.program-2.result.now ≡ a.program = c.program-2.ensures.program ∙ c.deref.ensures ∙ c.program.ensures in
    all_tended a c.finish.new.device k c.finish.new.keeper c.args.tend
    (joined a c.run_all.new.device c.finish.new.device k c.run_all.new.keeper c.finish.new.keeper c.run_all.ensures.advanced c.finish.ensures.advanced)
    c.finish.ensures.none
    (c.in_ok-keeper.ensures.moves a.moves ∙ ap (λ (p : Program). tended_moves p c.args.tend a.moves) same)

pub returns-clause-driven : goal.returns-clause-driven
returns-clause-driven g c =
    let a = c.args.device.now in
    let k = c.in_ok-keeper.keeper in
    let same : c.program-2.result.now ≡ a.program = c.program-2.ensures.program ∙ c.deref.ensures ∙ c.program.ensures in
    driven a c.run_all.new.device c.finish.new.device k c.run_all.new.keeper c.args.tend
    (c.in_ok-keeper.ensures.moves a.moves ∙ ap (λ (p : Program). tended_moves p c.args.tend a.moves) same)
    c.in_ok-run_all.ensures.leads c.finish.ensures.all
