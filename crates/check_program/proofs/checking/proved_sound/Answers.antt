use Rattle.std.proofs.Common.{◌∙◌, subst, sym}
use Rattle.check_program.specs.Sound.{IsSound}
use Rattle.check_program.proofs.checking.proved_sound.Goals as goal

pub new-requires-in-Ok : goal.new-requires-in-Ok
new-requires-in-Ok c = subst IsSound (sym (c.in-Ok.ensures.ok ∙ c.in_ok-shaped.ensures)) c.requires.sound
