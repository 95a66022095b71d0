-- What a command answers to the bytes of its input.
use Rattle.std.specs.Prelude.{◌≡◌, ◌⊎◌, ℕ, Bool, List, [], Option, None, Result, Ok, Err}
use Rattle.std.specs.Io.KnownBytes.{Keeps}
use Rattle.device_model.specs.Devices.{Device}
use Rattle.answer.specs.Answers as rest
use Rattle.answer.specs.Answers.{over_input}
use Rattle.answer.specs.Forms.{form_of}
use Rattle.compile_file.specs.Files.{frame_file, program_file}
use Rattle.answer.specs.Inputs.{ByLimit}
use Rattle.answer.specs.Plain.{Rejects, refusal, program_refusal}
use Rattle.answer.specs.declared.status.Status.{Status}
use Rattle.answer.specs.declared.status.Status.TheVariants.{ReadFault, NoMemory}
use Rattle.frame.specs.declared.fault.FrameFault.{FrameFault}
use Rattle.frame.specs.declared.frame.Frame.{Frame}
use Rattle.frame_gen.specs.Generated.{generated}
use Rattle.base.specs.declared.event.Event.{Event}
use Rattle.program.specs.declared.fault.ProgramFault.{ProgramFault}
use Rattle.program.specs.declared.program.Program.{Program}
use Rattle.top.specs.Audits.{AuditsFile}
use Rattle.top.specs.Flights.{FliesBytes}
use Rattle.top.specs.Headline.{RunsFrame, SummarizesFrame, Executes}
use Rattle.top.specs.Outcomes.{Tells, EndsAs}
use Rattle.top.specs.Replies.{IsStill}
use Rattle.top.specs.declared.reply.Reply.{Reply}
use Rattle.cli.specs.declared.command.Command.{Command}
use Rattle.cli.specs.declared.form.Form.TheVariants.{Line}
use Rattle.cli.specs.declared.command.Command.TheVariants as reads
use Rattle.base.specs.declared.run_options.RunOptions.{RunOptions}

abbrev pub RunsFile : RunOptions → Bool → Bool → Result Frame FrameFault → List Device → Reply → Type 0
RunsFile options trace tight (Ok frame) devices reply = RunsFrame options trace tight frame devices reply
RunsFile options trace tight (Err fault) devices reply = IsStill (λ answer. answer ≡ refusal Line fault) devices reply

abbrev pub ExecutesFile : RunOptions → Bool → Result Program ProgramFault → List Device → Reply → Type 0
ExecutesFile options trace (Ok program) devices reply = Executes options trace program devices reply ⊎ IsStill (Rejects Line program) devices reply
ExecutesFile options trace (Err fault) devices reply = IsStill (λ answer. answer ≡ program_refusal Line fault) devices reply

-- What is made of bytes within the limit, and the devices that have run for it, in their order. A command that needs no device
-- answers what it answers at rest.
abbrev pub AnswersBytes : Command → List ℕ → List Device → Reply → Type 0
AnswersBytes (reads.Frame asked) bytes devices reply = IsStill (rest.AnswersBytes (reads.Frame asked) bytes) devices reply
AnswersBytes (reads.Submission asked) bytes devices reply = IsStill (rest.AnswersBytes (reads.Submission asked) bytes) devices reply
AnswersBytes (reads.Gen number passes) bytes devices reply = IsStill (rest.AnswersBytes (reads.Gen number passes) bytes) devices reply
AnswersBytes (reads.Run options trace tight) bytes devices reply = RunsFile options trace tight (frame_file bytes) devices reply
AnswersBytes (reads.Exec options trace) bytes devices reply = ExecutesFile options trace (program_file bytes) devices reply
AnswersBytes (reads.Summary number passes options) bytes devices reply = SummarizesFrame options (generated number passes) devices reply
AnswersBytes (reads.Flight options persist depth) bytes devices reply = FliesBytes options persist depth bytes devices reply
AnswersBytes reads.Audit bytes devices reply = IsStill (AuditsFile bytes) devices reply

-- more bytes than the limit are refused before anything else
abbrev pub Answers : Command → List ℕ → List Device → Reply → Type 0
Answers command bytes devices reply =
    ByLimit command bytes (λ file. IsStill (λ answer. answer ≡ over_input (form_of command) file) devices reply) (AnswersBytes command bytes devices reply)

-- the answer to the bytes that were left
pub record AnswersLeft (command : Command) (left : Option (List ℕ)) (devices : List Device) (reply : Reply) : Type 0 where
  pub bytes : List ℕ
  pub told : Tells left bytes
  pub answers : Answers command bytes devices reply

-- The call ended with the answer to the bytes that were left, the keeper has kept each device that ran for it, and taps were told
-- of these. Or it ended with a read fault or want of memory, and wrote and told nothing; nothing was kept at a read fault.
abbrev pub IsAnswered : Command → Option (List ℕ) → Option (List ℕ) → Option (List ℕ) → (Option (List Event) → Type 0) → (List Device → Type 0) → Status → Type 0
IsAnswered command left old new told kept ReadFault = Keeps old new × told None × kept []
IsAnswered command left old new told kept NoMemory = Keeps old new × told None
IsAnswered command left old new told kept status =
    (reply : Reply) × (devices : List Device) × AnswersLeft command left devices reply × EndsAs reply.answer.status reply.answer.text old new status × told reply.history × kept devices
