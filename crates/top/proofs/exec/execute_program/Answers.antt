use Rattle.std.proofs.Common.{subst, sym, inl}
use Rattle.std.proofs.lemmas.Result.{IfOk-at_ok}
use Rattle.std.specs.Prelude.{◌⊎◌}
use Rattle.answer.specs.Plain.{Rejects}
use Rattle.base.proofs.Results.{if_ok}
use Rattle.cli.specs.declared.form.Form.TheVariants.{Line}
use Rattle.device_run.proofs.Keeping.{kept_so}
use Rattle.device_run.specs.Keepers.{Kept}
use Rattle.top.proofs.KeptLemmas.{executes_rejected}
use Rattle.top.specs.Replies.{IsStill}
use Rattle.top.specs.declared.reply.Reply.{Reply}
use Rattle.check_program.specs.Sound.{IsSound}
use Rattle.program.specs.declared.program.Program.{Program}
use Rattle.top.proofs.exec.execute_program.Goals as goal
use Rattle.top.specs.Headline.{Executes}

pub execute_checked-requires-clause-sound : goal.execute_checked-requires-clause-sound
execute_checked-requires-clause-sound g c κs lives = subst IsSound (sym c.in-Ok.ensures.ok.0) c.in-Ok.ensures.ok.1

pub returns-in-Ok : goal.returns-in-Ok
returns-in-Ok g c = record {
  program =
      if_ok c.execute_checked.result (λ reply is. kept_so _ _ _ _ is (λ devices runs. inl (subst (λ (p : Program). Executes c.args.options c.args.trace p devices reply) c.in-Ok.ensures.ok.0 runs))) c.execute_checked.ensures.program;
}

pub returns-in_ok-answer-in-Err : goal.returns-in_ok-answer-in-Err
returns-in_ok-answer-in-Err g c = record {
  program =
      let kept = g.K.Keep.kept c.args.keeper.now in
      let answer = c.in_ok-answer-in-Err.field-0 in
      let rejects = IfOk-at_ok (Rejects Line c.args.program) c.in_ok-answer-in-Err.was c.in-Err.ensures.err in
      subst (λ (reply : Reply). Kept kept kept (λ devices. Executes c.args.options c.args.trace c.args.program devices reply ⊎ IsStill (Rejects Line c.args.program) devices reply)) (sym c.still.ensures) (executes_rejected c.args.options c.args.trace c.args.program kept answer rejects);
}
