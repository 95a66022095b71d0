-- Answers, by how their command ended.
use Rattle.std.specs.Prelude.{◌≡◌, ℕ, Bool, List}
use Rattle.cli.specs.declared.form.Form.{Form}
use Rattle.check_program.specs.Verdicts.{Unsound}
use Rattle.check_program.specs.declared.hazard.Hazard.{Hazard}
use Rattle.frame.specs.declared.fault.FrameFault.{FrameFault}
use Rattle.report_json.specs.Told.{frame_fault_told, hazard_told, program_fault_told}
use Rattle.program.specs.declared.fault.ProgramFault.{ProgramFault}
use Rattle.program.specs.declared.program.Program.{Program}
use Rattle.answer.specs.declared.answer.Answer.{Answer}
use Rattle.answer.specs.declared.status.AnswerStatus.TheVariants.{Done, Rejected, Refused}

-- the whole text of a command that was done
abbrev pub done : List ℕ → Answer
done text = record { status = Done; text = text }

-- a file with a fault, told as JSON where that is asked for
abbrev pub refusal : Form → FrameFault → Answer
refusal form fault = record { status = Refused; text = frame_fault_told form fault }

abbrev pub program_refusal : Form → ProgramFault → Answer
program_refusal form fault = record { status = Refused; text = program_fault_told form fault }

abbrev pub rejection : Form → Hazard → Answer
rejection form hazard = record { status = Rejected; text = hazard_told form hazard }

-- a program that is not sound
pub record Rejects (form : Form) (program : Program) (answer : Answer) : Type 0 where
  pub hazard : Hazard
  pub unsound : Unsound program hazard
  pub whole : answer ≡ rejection form hazard
