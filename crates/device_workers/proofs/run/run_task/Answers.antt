use Rattle.std.proofs.Common.{◌<◌, ℕ, ap, ◌∙◌, subst}
use Rattle.std.specs.Prelude.{OnOk, Option}
use Rattle.device_drive.specs.Tended.{tended_moves}
use Rattle.device_workers.proofs.run.run_task.Goals as goal
use Rattle.program.specs.declared.program.Program.{Program}

pub returns-in-Ok : goal.returns-in-Ok
returns-in-Ok g c =
    let now = c.finish-device.ensures in
    record {
      program = now.program ∙ c.requires.program;
      fill = now.fill;
      came = now.came;
      moves = now.moves ∙ ap (λ (p : Program). tended_moves p g.T.Task.tend 256) c.requires.program ∙ ap (λ (tend : Option ℕ). tended_moves c.args.program.now.program tend 256) c.requires.tend;
      complete = λ some. now.complete (subst (λ end. OnOk end (0 < c.parts-shares.result.0.1.ends.amount)) c.in-Ok.is (c.parts-shares.ensures.found some));
    }

pub returns-then-complete : goal.returns-then-complete
returns-then-complete g c =
    let now = c.finish-device.ensures in
    record {
      program = now.program ∙ c.requires.program;
      fill = now.fill;
      came = now.came;
      moves = now.moves ∙ ap (λ (p : Program). tended_moves p g.T.Task.tend 256) c.requires.program ∙ ap (λ (tend : Option ℕ). tended_moves c.args.program.now.program tend 256) c.requires.tend;
      complete = λ some. c.complete.ensures.0 c.if-complete.true;
    }
