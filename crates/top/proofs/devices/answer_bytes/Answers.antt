use Rattle.std.proofs.Common.{subst, sym}
use Rattle.std.specs.Prelude.{IfOk}
use Rattle.cli.specs.declared.command.Command.{Command}
use Rattle.device_run.specs.Keepers.{Kept}
use Rattle.top.proofs.devices.answer_bytes.Goals as goal
use Rattle.top.specs.Answers.{AnswersBytes}

pub returns-in-Run : goal.returns-in-Run
returns-in-Run g c = record {
  answer =
      let kept = g.K.Keep.kept in
      subst (λ (command : Command). IfOk c.run_file.result (λ reply. Kept (kept c.args.keeper.now) (kept c.run_file.new.keeper) (λ devices. AnswersBytes command c.args.bytes.now devices reply))) (sym c.in-Run.is) c.run_file.ensures.file;
}

pub returns-in-Exec : goal.returns-in-Exec
returns-in-Exec g c = record {
  answer =
      let kept = g.K.Keep.kept in
      subst (λ (command : Command). IfOk c.execute_file.result (λ reply. Kept (kept c.args.keeper.now) (kept c.execute_file.new.keeper) (λ devices. AnswersBytes command c.args.bytes.now devices reply))) (sym c.in-Exec.is) c.execute_file.ensures.file;
}

pub returns-in-Summary : goal.returns-in-Summary
returns-in-Summary g c = record {
  answer =
      let kept = g.K.Keep.kept in
      subst (λ (command : Command). IfOk c.summarize.result (λ reply. Kept (kept c.args.keeper.now) (kept c.summarize.new.keeper) (λ devices. AnswersBytes command c.args.bytes.now devices reply))) (sym c.in-Summary.is) c.summarize.ensures.frame;
}
