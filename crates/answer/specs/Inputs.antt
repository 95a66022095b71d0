-- What a command reads, and how much of it.
use Rattle.std.specs.Prelude.{◌≡◌, ◌<◌, ◌≤◌, ℕ, List, length, Option, Some, None}
use Rattle.answer.specs.declared.files.File.{File}
use Rattle.answer.specs.declared.files.File.TheVariants as files
use Rattle.cli.specs.declared.command.Command.{Command}
use Rattle.cli.specs.declared.command.Command.TheVariants.{Frame, Submission, Gen, Run, Exec, Summary, Flight, Audit}

-- a frame, a submission, or nothing; `flight` reads a frame on each line, and `audit` a trace behind a submission
abbrev pub file_of : Command → Option File
file_of (Frame asked) = Some files.Frame
file_of (Submission asked) = Some files.Submission
file_of (Gen number passes) = None
file_of (Run options trace tight) = Some files.Frame
file_of (Exec options trace) = Some files.Submission
file_of (Summary number passes options) = None
file_of (Flight options persist depth) = Some files.Frame
file_of Audit = Some files.Submission

-- so many bytes it may have: 16 MiB of a frame, 32 MiB of a submission
abbrev pub limit_of : File → ℕ
limit_of files.Frame = 16777216
limit_of files.Submission = 33554432

-- what holds where there are more bytes than the command's file may have, and what holds where there are not
pub record ByLimit (command : Command) (bytes : List ℕ) (Over : File → Type 0) (Within : Type 0) : Type 0 where
  pub over : (file : File) → file_of command ≡ Some file → limit_of file < length bytes → Over file
  pub within : ((file : File) → file_of command ≡ Some file → length bytes ≤ limit_of file) → Within
