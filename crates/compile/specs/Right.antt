-- Programs that are right for a frame.
use Rattle.std.specs.Prelude.{◌≡◌, length, None}
use Rattle.check_program.specs.Sound.{IsSound}
use Rattle.law_meaning.specs.Laws.{IsReadMeant}
use Rattle.frame.specs.Numbered.{NumberedFrame}
use Rattle.program.specs.FirstFault.{first_fault}
use Rattle.program.specs.declared.program.Program.{Program}

-- it breaks no rule and is sound; it has a read-back for each export, and in every order that its nodes may run in the host
-- reads there what the frame means
pub record IsRightFor (frame : NumberedFrame) (program : Program) : Type 0 where
  pub faultless : first_fault program ≡ None
  pub sound : IsSound program
  pub readbacks : length program.readbacks ≡ length frame.exports
  pub means : IsReadMeant frame program
