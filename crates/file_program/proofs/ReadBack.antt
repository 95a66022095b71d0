-- A text that is a program's JSON value is read as the program.
use Rattle.std.proofs.Common.{◌≡◌, ℕ, List, [], Some, Ok, refl}
use Rattle.file_json.specs.Json.{json_of}
use Rattle.program.specs.declared.program.Program.{Program}
use Rattle.file_program.specs.Files.{program_of}
use Rattle.file_program.specs.Programs.{program_data, FitsProgram}
use Rattle.file_program.proofs.Again.{program_again}

pub read_back : (program : Program) (text : List ℕ) → FitsProgram program → json_of text ≡ Some (program_data program) → program_of text ≡ Ok program
read_back program text fits reads = rw (reads, program_again [] program fits) refl
