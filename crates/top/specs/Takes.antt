-- How much a command takes of its source.
use Rattle.std.specs.Prelude.{ℕ, ◌+◌, List, Option, Some, None, option_and_then}
use Rattle.std.specs.Io.KnownBytes.{Keeps}
use Rattle.answer.specs.Inputs.{file_of, limit_of}
use Rattle.answer.specs.declared.files.File.{File}
use Rattle.top.specs.Outcomes.{TakesAtMost, TakesWhole}
use Rattle.cli.specs.declared.command.Command.{Command}

-- the file that the command of a line reads
abbrev pub file_in : Option Command → Option File
file_in line = option_and_then file_of line

-- no more of the file is taken than one byte over its limit; where nothing is read nothing is
abbrev pub TakesFew : Option File → Option (List ℕ) → Option (List ℕ) → Type 0
TakesFew None old new = Keeps old new
TakesFew (Some file) old new = TakesAtMost (limit_of file + 1) old new

-- all of it is taken, or that one byte more
abbrev pub TakesAll : Option File → Option (List ℕ) → Option (List ℕ) → Type 0
TakesAll None old new = Keeps old new
TakesAll (Some file) old new = TakesWhole (limit_of file) old new
