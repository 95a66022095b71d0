use Rattle.std.proofs.Common.{Result, Err, ◌∙◌, ap, subst, sym}
use Rattle.std.specs.Prelude.{IfOk}
use Rattle.answer.specs.Plain.{program_refusal}
use Rattle.cli.specs.declared.form.Form.TheVariants.{Line}
use Rattle.compile_file.specs.Files.{program_file}
use Rattle.device_run.specs.Keepers.{Kept}
use Rattle.file_program.specs.Files.{ProgramGives}
use Rattle.file_program.specs.declared.file.ProgramReadError.{ProgramReadError}
use Rattle.program.specs.declared.fault.ProgramFault.{ProgramFault}
use Rattle.program.specs.declared.program.Program.{Program}
use Rattle.top.proofs.KeptLemmas.{executes_refused}
use Rattle.top.proofs.exec.execute_file.Goals as goal
use Rattle.top.specs.Answers.{ExecutesFile}
use Rattle.top.specs.declared.reply.Reply.{Reply}

pub returns-in-Ok : goal.returns-in-Ok
returns-in-Ok g c = record {
  file =
      let kept = g.K.Keep.kept in
      subst (λ (file : Result Program ProgramFault). IfOk c.execute_program.result (λ reply. Kept (kept c.args.keeper.now) (kept c.execute_program.new.keeper) (λ devices. ExecutesFile c.args.options c.args.trace file devices reply))) (sym c.in-Ok.ensures) c.execute_program.ensures.program;
}

pub returns-in_ok-program_refusal-in-Err-Refused : goal.returns-in_ok-program_refusal-in-Err-Refused
returns-in_ok-program_refusal-in-Err-Refused g c = record {
  file =
      let kept = g.K.Keep.kept c.args.keeper.now in
      let file = program_file c.args.bytes.now in
      let answer = c.in_ok-program_refusal-in-Err-Refused in
      let refused = subst (λ (e : ProgramReadError). ProgramGives (Err e) file) c.in-Err-Refused.field-0-is c.in-Err-Refused.ensures in
      subst (λ (reply : Reply). Kept kept kept (λ devices. ExecutesFile c.args.options c.args.trace file devices reply)) (sym c.still.ensures) (executes_refused c.args.options c.args.trace file c.in-Err-Refused.fault kept answer.field-0 refused (answer.ensures ∙ ap (λ (f : ProgramFault). program_refusal Line f) c.in-Err-Refused.fault-is));
}
