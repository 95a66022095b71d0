-- What the checker answers.
use Rattle.std.specs.Prelude.{◌≡◌}
use Rattle.check_program.specs.Hazards.{IsHazard}
use Rattle.check_program.specs.Sound.{IsSound}
use Rattle.check_program.specs.declared.checking.CheckError.{CheckError}
use Rattle.check_program.specs.declared.checking.CheckError.TheVariants.{Refused, NoMemory}
use Rattle.check_program.specs.declared.hazard.Hazard.{Hazard}
use Rattle.program.specs.declared.program.Program.{Program}
use Rattle.check_access.specs.Views.{view_of}

-- the program is not sound, and this is what is wrong first
pub record Unsound (program : Program) (hazard : Hazard) : Type 0 where
  pub hazard_is : IsHazard (view_of program) hazard
  pub unsound : IsSound program → ⊥

-- why a program was not proved_sound, and the program itself
abbrev pub IsCheckError : Program → CheckError → Type 0
IsCheckError program (Refused hazard back) = Unsound program hazard × (back ≡ program)
IsCheckError program NoMemory = Unit {0}
