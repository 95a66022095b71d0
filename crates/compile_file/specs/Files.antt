-- What a file is: a value that breaks no rule, or the file's first fault.
use Rattle.std.specs.Prelude.{ℕ, List, Option, Some, None, Result, Ok, Err}
use Rattle.frame.specs.FirstFault.{first_fault}
use Rattle.frame.specs.declared.fault.FrameFault.{FrameFault}
use Rattle.frame.specs.declared.frame.Frame.{Frame}
use Rattle.file_frame.specs.Files.{frame_of}
use Rattle.file_program.specs.Files.{program_of}
use Rattle.program.specs.FirstFault as programs
use Rattle.program.specs.declared.fault.ProgramFault.{ProgramFault}
use Rattle.program.specs.declared.program.Program.{Program}

-- a value, or the first rule that it breaks
abbrev pub unless_broken : {X E : Type 0} → X → Option E → Result X E
unless_broken value None = Ok value
unless_broken value (Some fault) = Err fault

-- the rules on a value come after those on the form of its file
abbrev pub if_read : {X E : Type 0} → (X → Option E) → Result X E → Result X E
if_read broken (Ok value) = unless_broken value (broken value)
if_read broken (Err fault) = Err fault

-- what bytes within the limit are
abbrev pub frame_file : List ℕ → Result Frame FrameFault
frame_file bytes = if_read first_fault (frame_of bytes)

abbrev pub program_file : List ℕ → Result Program ProgramFault
program_file bytes = if_read programs.first_fault (program_of bytes)
