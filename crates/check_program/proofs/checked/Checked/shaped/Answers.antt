use Rattle.std.proofs.Common.{subst}
use Rattle.check_program.specs.Sound.{IsSound}
use Rattle.check_program.proofs.checked.Checked.shaped.Goals as goal

pub returns-clause-sound : goal.returns-clause-sound
returns-clause-sound c = subst (λ a. IsSound a.program) c.self.view_is c.self.invariant
