-- What a command that needs no device answers to the bytes of a file.
use Rattle.std.specs.Prelude.{◌≡◌, ◌⊎◌, ◌↔◌, ℕ, ◌≤◌, Bool, List, [], ◌++◌, length, None, Result, Ok, Err, codes}
use Rattle.cli.specs.declared.form.Form.{Form}
use Rattle.compile_file.specs.Compiles.{Compiles}
use Rattle.compile_record.specs.declared.compiled.Compiled.{Compiled}
use Rattle.compile_file.specs.Exports.{exports_text}
use Rattle.compile_file.specs.Files.{frame_file, program_file}
use Rattle.answer.specs.Forms.{form_of, frame_form, submission_form}
use Rattle.answer.specs.Inputs.{ByLimit}
use Rattle.answer.specs.Plain.{Rejects, done, refusal, program_refusal}
use Rattle.answer.specs.declared.answer.Answer.{Answer}
use Rattle.answer.specs.declared.files.File.{File}
use Rattle.answer.specs.declared.files.File.TheVariants as files
use Rattle.compile_queues.specs.Choice.{DiffersInQueues, IsChoice}
use Rattle.compile_queues.specs.Cost.{IsFrameCost}
use Rattle.base.specs.declared.limit.Limit.TheVariants.{Input}
use Rattle.compile_bound.specs.Bounds.{Holds, IsBound, IsShown}
use Rattle.compile_bound.specs.declared.bound.Bound.{Bound as Certified}
use Rattle.check_program.specs.Sound.{IsSound}
use Rattle.frame.specs.Faults.{over_limit}
use Rattle.frame.specs.FirstFault.{first_fault}
use Rattle.frame.specs.Numbered.{numbered}
use Rattle.frame.specs.declared.fault.FrameFault.{FrameFault}
use Rattle.frame.specs.declared.frame.Frame.{Frame}
use Rattle.file_frame.specs.Files.{frame_text}
use Rattle.frame_gen.specs.Generated.{generated}
use Rattle.compile_groups.specs.Groups.{grouping}
use Rattle.compile_groups.specs.Placed.{sizes}
use Rattle.compile_lifetimes.specs.Ordered.{IsOrdered}
use Rattle.frame_meaning.specs.Meaning.{AreMeant, meaning}
use Rattle.compile_heap.specs.Placing.{Places, IsLeast}
use Rattle.report_json.specs.Told.{bound_told, check_told, cost_told, cull_told, place_told}
use Rattle.file_program.specs.Files.{program_text}
use Rattle.program.specs.Entries.{entries_of}
use Rattle.program.specs.Faults as programs
use Rattle.program.specs.declared.fault.ProgramFault.{ProgramFault}
use Rattle.program.specs.declared.program.Program.{Program}
use Rattle.frame_cull.specs.Culled.{AreKept, Culled}
use Rattle.cli.specs.declared.command.Command.{Command}
use Rattle.cli.specs.declared.command.Command.TheVariants as reads
use Rattle.cli.specs.declared.command.FrameCommand.{FrameCommand}
use Rattle.cli.specs.declared.command.FrameCommand.TheVariants.{Cull, Place, Bound, Compile, Auto, Cost, Meaning, Migrate}
use Rattle.cli.specs.declared.command.SubmissionCommand.{SubmissionCommand}
use Rattle.cli.specs.declared.command.SubmissionCommand.TheVariants.{Check}

-- the answer to more bytes than a file may have
abbrev pub over_input : Form → File → Answer
over_input form files.Frame = refusal form (over_limit Input [])
over_input form files.Submission = program_refusal form (programs.over_limit Input [])

-- the exports, with the bytes that they have after all passes
pub record MeansFrame (frame : Frame) (answer : Answer) : Type 0 where
  pub bytes : ℕ → List ℕ
  pub meant : AreMeant (numbered frame) bytes
  pub whole : answer ≡ done (exports_text frame bytes)

-- what becomes of each pass
pub record CullsFrame (form : Form) (frame : Frame) (answer : Answer) : Type 0 where
  pub kept : List Bool
  pub are_kept : AreKept (numbered frame) kept
  pub whole : answer ≡ done (cull_told form frame kept)

-- where the transient units lie: each at its least place, where units that are ordered may share memory
pub record PlacesFrame (form : Form) (frame : Frame) (answer : Answer) : Type 0 where
  pub kept : List Bool
  pub are_kept : AreKept (numbered frame) kept
  pub ordered : ℕ → ℕ → Bool
  pub is_ordered : IsOrdered (grouping (numbered frame) kept) ordered
  pub places : Places
  pub least : IsLeast (sizes (grouping (numbered frame) kept)) ordered places
  pub whole : answer ≡ done (place_told form frame (grouping (numbered frame) kept) places)

-- how many bytes no legal placement of the transient units is smaller than, with units that show it, beside the heap of their
-- least places
pub record BoundsFrame (form : Form) (frame : Frame) (answer : Answer) : Type 0 where
  pub kept : List Bool
  pub are_kept : AreKept (numbered frame) kept
  pub ordered : ℕ → ℕ → Bool
  pub is_ordered : IsOrdered (grouping (numbered frame) kept) ordered
  pub places : Places
  pub least : IsLeast (sizes (grouping (numbered frame) kept)) ordered places
  pub bound : Certified
  pub is_bound : IsBound (sizes (grouping (numbered frame) kept)) ordered bound
  pub shown : IsShown (sizes (grouping (numbered frame) kept)) ordered bound
  pub holds : Holds (sizes (grouping (numbered frame) kept)) ordered bound.least
  pub whole : answer ≡ done (bound_told form frame (grouping (numbered frame) kept) bound.least places.heap bound.chosen)

-- the canonical text of the compiled program and a line feed, from which that program is read again: it is sound, so `check`
-- accepts the text, where it is within the limit
pub record CompilesFrame (tight : Bool) (frame : Frame) (answer : Answer) : Type 0 where
  pub made : Compiled Program
  pub compiles : Compiles tight (numbered frame) made
  pub whole : answer ≡ done (program_text made.program ++ codes "\n")
  pub again : program_file answer.text ≡ Ok made.program

-- the canonical text of the chosen frame and a line feed, from which that frame is read again: it breaks no rule, differs in the
-- queues of its passes alone, means the same, has the same passes culled and costs no more
pub record ChoosesQueues (frame : Frame) (answer : Answer) : Type 0 where
  pub chosen : Frame
  pub choice : IsChoice frame chosen
  pub good : first_fault chosen ≡ None
  pub differs : DiffersInQueues (numbered frame) (numbered chosen)
  pub means : (unit : ℕ) → meaning (numbered chosen) unit ≡ meaning (numbered frame) unit
  pub culled : (p : ℕ) → Culled (numbered chosen) p ↔ Culled (numbered frame) p
  pub given : ℕ
  pub is_given : IsFrameCost (numbered frame) given
  pub found : ℕ
  pub is_found : IsFrameCost (numbered chosen) found
  pub less : found ≤ given
  pub whole : answer ≡ done (frame_text chosen ++ codes "\n")
  pub again : frame_file answer.text ≡ Ok chosen

-- what the frame costs as given and as chosen
pub record CostsFrame (form : Form) (frame : Frame) (answer : Answer) : Type 0 where
  pub chosen : Frame
  pub choice : IsChoice frame chosen
  pub given : ℕ
  pub is_given : IsFrameCost (numbered frame) given
  pub found : ℕ
  pub is_found : IsFrameCost (numbered chosen) found
  pub less : found ≤ given
  pub whole : answer ≡ done (cost_told form given found)

-- the canonical text and a line feed, from which the frame is read again
pub record MigratesFrame (frame : Frame) (answer : Answer) : Type 0 where
  pub whole : answer ≡ done (frame_text frame ++ codes "\n")
  pub again : frame_file answer.text ≡ Ok frame

-- the same of the frame that a number gives
abbrev pub GeneratesFrame : ℕ → ℕ → Answer → Type 0
GeneratesFrame number passes answer = MigratesFrame (generated number passes) answer

-- what is made of a frame without a fault
abbrev pub AnswersFrame : FrameCommand → Frame → Answer → Type 0
AnswersFrame (Cull form) frame answer = CullsFrame form frame answer
AnswersFrame (Place form) frame answer = PlacesFrame form frame answer
AnswersFrame (Bound form) frame answer = BoundsFrame form frame answer
AnswersFrame (Compile tight) frame answer = CompilesFrame tight frame answer
AnswersFrame Auto frame answer = ChoosesQueues frame answer
AnswersFrame (Cost form) frame answer = CostsFrame form frame answer
AnswersFrame Meaning frame answer = MeansFrame frame answer
AnswersFrame Migrate frame answer = MigratesFrame frame answer

abbrev pub AnswersFrameFile : FrameCommand → Result Frame FrameFault → Answer → Type 0
AnswersFrameFile asked (Ok frame) answer = AnswersFrame asked frame answer
AnswersFrameFile asked (Err fault) answer = answer ≡ refusal (frame_form asked) fault

pub record Accepts (form : Form) (program : Program) (answer : Answer) : Type 0 where
  pub sound : IsSound program
  pub whole : answer ≡ done (check_told form (length (entries_of program)))

-- what is made of a program without a fault
abbrev pub AnswersProgram : SubmissionCommand → Program → Answer → Type 0
AnswersProgram (Check form) program answer = Accepts form program answer ⊎ Rejects form program answer

abbrev pub AnswersProgramFile : SubmissionCommand → Result Program ProgramFault → Answer → Type 0
AnswersProgramFile asked (Ok program) answer = AnswersProgram asked program answer
AnswersProgramFile asked (Err fault) answer = answer ≡ program_refusal (submission_form asked) fault

-- what is made of bytes within the limit; what is generated does not depend on them, and a command that needs a device is answered elsewhere
abbrev pub AnswersBytes : Command → List ℕ → Answer → Type 0
AnswersBytes (reads.Frame asked) bytes answer = AnswersFrameFile asked (frame_file bytes) answer
AnswersBytes (reads.Submission asked) bytes answer = AnswersProgramFile asked (program_file bytes) answer
AnswersBytes (reads.Gen number passes) bytes answer = GeneratesFrame number passes answer
AnswersBytes (reads.Run options trace tight) bytes answer = ⊥
AnswersBytes (reads.Exec options trace) bytes answer = ⊥
AnswersBytes (reads.Summary number passes options) bytes answer = ⊥
AnswersBytes (reads.Flight options persist depth) bytes answer = ⊥
AnswersBytes reads.Audit bytes answer = ⊥

-- more bytes than the limit are refused before anything else
abbrev pub Answers : Command → List ℕ → Answer → Type 0
Answers command bytes answer = ByLimit command bytes (λ file. answer ≡ over_input (form_of command) file) (AnswersBytes command bytes answer)
