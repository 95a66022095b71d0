use Rattle.std.proofs.Common.{subst, sym}
use Rattle.check_tighten.specs.Standing.{StandsTo}
use Rattle.check_tighten.proofs.Stands.{same_program, stands_taken}
use Rattle.check_tighten.proofs.Turning.{tightened_taken}
use Rattle.check_tighten.proofs.tightening.tighten.Goals as goal

pub returns-clause-stands : goal.returns-clause-stands
returns-clause-stands c =
    let given = c.args.program.program in
    stands_taken (λ checked. checked.program) given c.in_ok-tight.tight c.proved_sound.result
    (c.in_ok-tight.ensures.stands given (subst (StandsTo given) (sym c.in_ok-copy.ensures.program) (same_program given)))
    c.proved_sound.ensures

pub returns-clause-tightened : goal.returns-clause-tightened
returns-clause-tightened c =
    tightened_taken (λ checked. checked.program) c.args.program.program c.in_ok-copy.copy c.in_ok-tight.tight c.proved_sound.result c.in_ok-copy.ensures.program c.in_ok-tight.ensures.tightened c.proved_sound.ensures
