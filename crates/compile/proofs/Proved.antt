-- What is right for a frame stays so as it is proved_sound.
use Rattle.std.proofs.Common.{◌≡◌, sym, subst}
use Rattle.compile.specs.Right.{IsRightFor}
use Rattle.frame.specs.Numbered.{NumberedFrame}
use Rattle.program.specs.declared.program.Program.{Program}

pub proved_right : (frame : NumberedFrame) (program recorded : Program) → program ≡ recorded → IsRightFor frame recorded → IsRightFor frame program
proved_right frame program recorded is right = subst (IsRightFor frame) (sym is) right
