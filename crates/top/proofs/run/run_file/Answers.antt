use Rattle.std.proofs.Common.{Err, ◌∙◌, ap, subst, sym}
use Rattle.answer.specs.Plain.{refusal}
use Rattle.cli.specs.declared.form.Form.TheVariants.{Line}
use Rattle.compile_file.specs.Files.{frame_file}
use Rattle.device_run.specs.Keepers.{Kept}
use Rattle.file_frame.specs.Files.{FrameGives}
use Rattle.file_frame.specs.declared.file.FrameReadError.{FrameReadError}
use Rattle.frame.specs.declared.fault.FrameFault.{FrameFault}
use Rattle.top.proofs.KeptLemmas.{runs_refused}
use Rattle.top.proofs.run.run_file.Goals as goal
use Rattle.top.specs.Answers.{RunsFile}
use Rattle.top.specs.declared.reply.Reply.{Reply}

pub returns-in_ok-refusal-in-Err-Refused : goal.returns-in_ok-refusal-in-Err-Refused
returns-in_ok-refusal-in-Err-Refused g c = record {
  file =
      let kept = g.K.Keep.kept c.args.keeper.now in
      let file = frame_file c.args.bytes.now in
      let answer = c.in_ok-refusal-in-Err-Refused in
      let refused = subst (λ (e : FrameReadError). FrameGives (Err e) file) c.in-Err-Refused.field-0-is c.in-Err-Refused.ensures in
      subst (λ (reply : Reply). Kept kept kept (λ devices. RunsFile c.args.options c.args.trace c.args.tight file devices reply)) (sym c.still.ensures) (runs_refused c.args.options c.args.trace c.args.tight file c.in-Err-Refused.fault kept answer.field-0 refused (answer.ensures ∙ ap (λ (f : FrameFault). refusal Line f) c.in-Err-Refused.fault-is));
}
