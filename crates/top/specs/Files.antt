-- What several files come to.
use Rattle.std.specs.Prelude.{◌≡◌, ◌⊎◌, ℕ, nat_lt, Bool, List, [], map, fold, Option, Some, None, if◌then◌else◌}
use Rattle.std.specs.Io.KnownBytes.{Appends, Keeps}
use Rattle.std.specs.List.{AllByRecursion}
use Rattle.answer.specs.Forms.{form_of}
use Rattle.answer.specs.Statuses.{number_of, status_of}
use Rattle.answer.specs.declared.answer.Answer.{Answer}
use Rattle.answer.specs.declared.status.Status.TheVariants.{ReadFault, WriteFault, NoMemory}
use Rattle.cli.specs.declared.form.Form.{Form}
use Rattle.cli.specs.declared.command.Command.{Command}
use Rattle.report_files.specs.Files.{files_text}
use Rattle.report_files.specs.declared.file_report.FileReport.{FileReport}
use Rattle.top.specs.Answers.{Answers}
use Rattle.top.specs.Outcomes.{TakesFront}
use Rattle.top.specs.Replies.{still}

-- a file was read: it has the command's answer to its bytes
pub record IsRead (command : Command) (file : FileReport) : Type 0 where
  pub bytes : List ℕ
  pub answer : Answer
  pub answers : Answers command bytes [] (still answer)
  pub status : file.status ≡ number_of (status_of answer.status)
  pub text : file.answer ≡ Some answer.text

-- or it was not, and has no text
pub record IsUnread (file : FileReport) : Type 0 where
  pub status : file.status ≡ number_of ReadFault
  pub text : file.answer ≡ None

abbrev pub IsAnswered : Command → FileReport → Type 0
IsAnswered command file = IsRead command file ⊎ IsUnread file

-- each of these files, in their order
pub record AreAnswered (command : Command) (names : List (List ℕ)) (files : List FileReport) : Type 0 where
  pub named : map (λ file. file.name) files ≡ names
  pub answered : AllByRecursion (IsAnswered command) files

abbrev pub greater : ℕ → FileReport → ℕ
greater most file = if nat_lt most file.status then file.status else most

-- the greatest status
abbrev pub greatest : List FileReport → ℕ
greatest files = fold greater 0 files

-- what is printed of them was written whole, and the status is the greatest; or a write failed behind a front of it
abbrev pub AreWritten : Form → List FileReport → Option (List ℕ) → Option (List ℕ) → ℕ → Type 0
AreWritten form files old new status =
    ((status ≡ greatest files) × Appends old new (files_text form files))
    ⊎ ((status ≡ number_of WriteFault) × TakesFront (files_text form files) old new)

-- all were answered; or memory ran out, and nothing was written
abbrev pub EndsFiles : Command → List (List ℕ) → Option (List ℕ) → Option (List ℕ) → ℕ → Type 0
EndsFiles command names old new status =
    ((files : List FileReport) × AreAnswered command names files × AreWritten (form_of command) files old new status)
    ⊎ ((status ≡ number_of NoMemory) × Keeps old new)
