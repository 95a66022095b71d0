use Rattle.std.proofs.Common.{subst, sym}
use Rattle.check_program.specs.Sound.{IsSound}
use Rattle.check_program.specs.Internal.Decided.{Judges}
use Rattle.check_program.proofs.checking.check.Goals as goal

pub new-requires-in-Ok : goal.new-requires-in-Ok
new-requires-in-Ok c = subst IsSound (sym c.in-Ok.ensures.ok) (subst (Judges c.args.program) c.in-Ok-None.field-0-is c.in-Ok-None.ensures)
