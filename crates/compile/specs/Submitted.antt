-- What is submitted for a frame.
use Rattle.check_program.specs.Checked.{Accepted}
use Rattle.compile_record.specs.declared.compiled.Compiled.{Compiled}
use Rattle.program.specs.declared.program.Program.{Program}

-- with the program alone, whatever order it was found sound in
abbrev pub submitted : Compiled Accepted → Compiled Program
submitted made = record { program = made.program.program; kept = made.kept; placement = made.placement }
