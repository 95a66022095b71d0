-- The files of a line: how many a command may be given.
use Rattle.std.specs.Prelude.{ℕ, ◌==◌, nat_le, List, [], length, Bool, true, Option, Some, None, unwrap_or, option_and_then, codes, if◌then◌else◌}
use Rattle.clap.specs.Words.{Row, all_of}
use Rattle.cli.specs.Commands.{command_in}
use Rattle.cli.specs.declared.command.Command.{Command}
use Rattle.cli.specs.declared.command.Command.TheVariants.{Frame, Submission, Gen, Run, Exec, Summary, Flight, Audit}
use Rattle.cli.specs.declared.line.Line.{Line}

-- none where nothing is read, any number of submissions that need no device, and else one at most
abbrev pub takes_files : Command → ℕ → Bool
takes_files (Frame asked) count = nat_le count 1
takes_files (Submission asked) count = true
takes_files (Gen number passes) count = count == 0
takes_files (Run options trace tight) count = nat_le count 1
takes_files (Exec options trace) count = nat_le count 1
takes_files (Summary number passes options) count = count == 0
takes_files (Flight options persist depth) count = nat_le count 1
takes_files Audit count = nat_le count 1

-- the words behind a command's own, by what `clap` found on a line
abbrev pub words_in : List Row → Option (List (List ℕ))
words_in rows = all_of (codes "file") rows

abbrev pub files_in : List Row → List (List ℕ)
files_in rows = unwrap_or (words_in rows) []

-- a command with its files, where it takes so many
abbrev pub with_files : List (List ℕ) → Command → Option Line
with_files files command = if takes_files command (length files) then Some (record { command = command; files = files }) else None

abbrev pub line_in : List Row → Option Line
line_in rows = option_and_then (with_files (files_in rows)) (command_in rows)
