-- The program that bytes are, or the first fault.
use Rattle.std.specs.Prelude.{◌≡◌, ℕ, List, [], Option, Some, None, Result, Ok, Err}
use Rattle.file_json.specs.Json.{json_of}
use Rattle.file_json.specs.Reading.{Reading}
use Rattle.program.specs.Faults.{not_json, misshapen}
use Rattle.program.specs.declared.fault.ProgramFault.{ProgramFault}
use Rattle.program.specs.declared.program.Program.{Program}
use Rattle.serde_json.specs.Data.{Data}
use Rattle.serde_json.specs.Written.{compact_text}
use Rattle.file_program.specs.Programs.{program_at, program_data}
use Rattle.file_program.specs.declared.file.ProgramReadError.{ProgramReadError}
use Rattle.file_program.specs.declared.file.ProgramReadError.TheVariants as ends

-- a first fault of form is G11 at its path
abbrev pub shaped : Reading Program → Result Program ProgramFault
shaped (Ok program) = Ok program
shaped (Err path) = Err (misshapen path)

-- bytes that are no JSON value are G10
abbrev pub file_of : Option Data → Result Program ProgramFault
file_of None = Err not_json
file_of (Some d) = shaped (program_at [] d)

abbrev pub program_of : List ℕ → Result Program ProgramFault
program_of bytes = file_of (json_of bytes)

-- what a function returned is this program or fault, unless memory ran out
abbrev pub ProgramGives : Result Program ProgramReadError → Result Program ProgramFault → Type 0
ProgramGives (Ok program) found = found ≡ Ok program
ProgramGives (Err ends.NoMemory) found = Unit {0}
ProgramGives (Err (ends.Refused fault)) found = found ≡ Err fault

-- the canonical text of a program
abbrev pub program_text : Program → List ℕ
program_text program = compact_text (program_data program)
