-- What `audit` answers: whether a trace is a run of a submission.
use Rattle.cli.specs.declared.form.Form.TheVariants.{Line}
use Rattle.std.specs.Prelude.{◌≡◌, ◌⊎◌, ◌↔◌, ℕ, List, ◌++◌, length, Result, Ok, Err}
use Rattle.device_audit.specs.Recordings.{submission_in, trace_in}
use Rattle.device_audit.specs.Runs.{IsRun}
use Rattle.device_audit.specs.Trace.{trace_of}
use Rattle.device_audit.specs.Verdicts.{AllReadApart, IfRun, Says}
use Rattle.device_audit.specs.declared.trace.TraceError.{TraceError}
use Rattle.device_audit.specs.declared.trace.TraceError.TheVariants as ends
use Rattle.device_audit.specs.declared.verdict.Verdict.{Verdict}
use Rattle.device_audit.specs.declared.verdict.Verdict.TheVariants as verdicts
use Rattle.base.specs.declared.event.Event.{Event}
use Rattle.check_program.specs.Sound.{IsSound}
use Rattle.report.specs.Audits.{audit_text}
use Rattle.report.specs.declared.audit.AuditLine.{AuditLine}
use Rattle.report.specs.declared.audit.AuditLine.TheVariants as lines
use Rattle.program.specs.declared.fault.ProgramFault.{ProgramFault}
use Rattle.program.specs.declared.program.Program.{Program}
use Rattle.compile_file.specs.Files.{program_file}
use Rattle.answer.specs.Plain.{Rejects, done, program_refusal}
use Rattle.device_run.specs.Runs.{read_by}
use Rattle.top.specs.Texts.{readbacks_text}
use Rattle.answer.specs.declared.answer.Answer.{Answer}
use Rattle.answer.specs.declared.status.AnswerStatus.{AnswerStatus}
use Rattle.answer.specs.declared.status.AnswerStatus.TheVariants.{Done, Rejected, Refused}

abbrev pub line_answer : AnswerStatus → AuditLine → Answer
line_answer status line = record { status = status; text = audit_text line }

-- the text is no trace: its first line that does not fit, or more events than are read
abbrev pub RefusesTrace : TraceError → Answer → Type 0
RefusesTrace (ends.Text line) answer = answer ≡ line_answer Refused (lines.Text line)
RefusesTrace (ends.Limit events) answer = answer ≡ line_answer Refused (lines.Limit events)
RefusesTrace ends.NoMemory answer = ⊥

-- of a run how many events it has, and the read-backs of the device on which they came; else the first event that is not
-- enabled, or the least node that is not done
abbrev pub verdict_answer : Verdict → Answer
verdict_answer (verdicts.Run device) = done (audit_text (lines.Run (length device.history)) ++ readbacks_text (read_by device) (length device.program.readbacks))
verdict_answer (verdicts.NotEnabled at) = line_answer Rejected (lines.NotEnabled at)
verdict_answer (verdicts.Unfinished node) = line_answer Rejected (lines.Unfinished node)

-- The verdict on the events: they are accepted exactly where they are a run of the program, which is sound; each read-back then
-- has the bytes that it has where all commands run one after another, in every order of the nodes.
pub record Judges (program : Program) (events : List Event) (answer : Answer) : Type 0 where
  pub sound : IsSound program
  pub verdict : Verdict
  pub says : Says program events verdict
  pub apart : IfRun AllReadApart verdict
  pub whole : answer ≡ verdict_answer verdict
  pub run : (answer.status ≡ Done) ↔ IsRun program events

-- a fault of the submission comes before one of the trace, and that before a hazard
abbrev pub AuditsTrace : Result Program ProgramFault → Result (List Event) TraceError → Answer → Type 0
AuditsTrace (Err fault) trace answer = answer ≡ program_refusal Line fault
AuditsTrace (Ok program) (Err end) answer = RefusesTrace end answer
AuditsTrace (Ok program) (Ok events) answer = Judges program events answer ⊎ Rejects Line program answer

-- a submission in one line, and a trace behind it
abbrev pub AuditsFile : List ℕ → Answer → Type 0
AuditsFile bytes answer = AuditsTrace (program_file (submission_in bytes)) (trace_of (trace_in bytes)) answer
