use Rattle.std.proofs.Common.{sym, subst}
use Rattle.check_program.specs.Sound.{IsSound}
use Rattle.law_sound.proofs.sound.sound_program_law.Goals as goal

pub returns : goal.returns
returns c = λ frame made good are_kept C.
    subst IsSound (sym C.recorded) (c.bytes_law.ensures.sound frame made.kept C.ordered made.placement good C.is_ordered C.least (c.starts_law.ensures.initialized frame made.kept good are_kept))
